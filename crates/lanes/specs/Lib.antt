-- SHA-256 of several messages at once: what is promised (Digests), and what the code has in hand on the way (Flat).
pub mod Digests
pub mod Flat
