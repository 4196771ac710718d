pub mod Writing
pub mod Staged
pub mod Covering
pub mod Rules
