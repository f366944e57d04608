-- Laws that proofs cite.
pub mod Passing
