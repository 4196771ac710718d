-- AES-CMAC (RFC 4493).
pub mod Cmac
