pub mod Shown
pub mod SmallDigests
pub mod SmallImage
