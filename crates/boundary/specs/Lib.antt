pub mod Boundary
pub mod Digests
pub mod Signers
