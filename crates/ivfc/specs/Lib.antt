pub mod Blocks
pub mod Verified
pub mod Rows
pub mod Views
pub mod Rules
