pub mod ViewLaws
pub mod EntryLaws
pub mod VerifiedLaws
pub mod LowestLaws
pub mod JudgeLaws
mod MemoryLaws
pub mod RowLaws
pub mod DigestLaws
mod FeedLaws
pub mod ReaderLaws
