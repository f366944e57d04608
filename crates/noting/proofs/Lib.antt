-- Laws that proofs cite.
pub mod Copied
pub mod Own
pub mod Decoding
