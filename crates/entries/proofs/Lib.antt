-- What the proofs of several functions use.
pub mod KnownLaws
pub mod ReadLaws
