pub mod Fields
pub mod Ranges
pub mod Blocks
pub mod Bytes
pub mod Marks
pub mod Frame
