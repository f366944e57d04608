-- Laws of the answers that proofs cite.
pub mod Entries
pub mod OrderWalks
pub mod Pushes
pub mod SameAnswers
