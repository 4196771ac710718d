pub mod Sizes
pub mod Fields
pub mod Image
pub mod Making
pub mod Rules
