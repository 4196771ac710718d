pub mod Faults
pub mod Marking
pub mod Listing
pub mod Laws
