pub mod Records
pub mod Entries
pub mod Listing
pub mod Searching
pub mod Walks
pub mod Reachable
pub mod Laws
pub mod Opening
