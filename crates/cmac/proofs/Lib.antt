-- The laws that the functions' proofs cite (CodeLaws), and what other crates may cite of a code (Laws).
pub mod CodeLaws
pub mod Laws
