pub mod ListLaws
pub mod LevelLaws
mod SetLaws
mod UnderLaws
mod NumberLaws
mod RoomLaws
pub mod MarkedLaws
pub mod LawsHold
mod ListingLaws
