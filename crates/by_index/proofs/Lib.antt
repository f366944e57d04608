-- Laws that proofs cite.
pub mod Rows
pub mod Own
