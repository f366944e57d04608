-- Laws that proofs cite.
pub mod Tallies
