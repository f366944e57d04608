-- Laws that proofs cite.
pub mod Marking
pub mod Steps
