pub mod Every
pub mod Magic
pub mod Headers
pub mod Tables
pub mod Descriptors
pub mod Opening
pub mod Refusals
pub mod Guarantees
