-- Laws that proofs cite.
pub mod Notes
