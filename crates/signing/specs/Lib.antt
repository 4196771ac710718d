pub mod Blocks
pub mod Calls
pub mod Digests
pub mod Placing
pub mod Rules
