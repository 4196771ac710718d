pub mod Places
pub mod Protected
pub mod Rules
pub mod Versions
