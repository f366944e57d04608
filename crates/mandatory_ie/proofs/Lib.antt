-- Laws that proofs cite.
pub mod Finding
