-- What the proofs of several functions use.
pub mod EntryLaws
pub mod MeetLaws
pub mod FuelLaws
pub mod WalkLaws
pub mod ChainLaws
pub mod HashLaws
pub mod ReachLaws
pub mod OpenLaws
pub mod RowLaws
mod LawsHold
