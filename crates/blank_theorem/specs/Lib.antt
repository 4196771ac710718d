pub mod Theorem
pub mod Sessions
pub mod Closed
