pub mod Laws
pub mod SignerLaws
pub mod StateLaws
