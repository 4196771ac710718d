-- A vector as a theorem.
pub mod Vectors
