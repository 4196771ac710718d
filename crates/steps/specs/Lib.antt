pub mod Answers
pub mod Reading
pub mod Sessions
pub mod Calls
pub mod Rules
