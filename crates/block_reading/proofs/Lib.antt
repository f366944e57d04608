-- Laws that the proofs of this crate cite.
pub mod Decoding
pub mod InBlock
