pub mod Bits
pub mod Tree
pub mod Free
pub mod Staging
pub mod Rules
