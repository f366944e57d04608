-- Laws that proofs cite.
pub mod Agreeing
