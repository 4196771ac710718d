-- The laws that the functions' proofs cite, and what other crates may cite.
pub mod FieldLaws
pub mod TableLaws
pub mod Built
pub mod KeyLaws
pub mod Places
pub mod Rounds
pub mod Laws
