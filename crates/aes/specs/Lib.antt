-- AES-128 (FIPS 197: Field, Aes), and what the contracts of the code say besides (Keys).
pub mod Field
pub mod Aes
pub mod Keys
