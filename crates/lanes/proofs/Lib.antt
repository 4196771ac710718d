-- The laws that the functions' proofs cite.
mod FlatLaws
mod LaneLaws
mod BlockLaws
mod DigestLaws
