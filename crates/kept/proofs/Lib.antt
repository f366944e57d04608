-- Laws of the answers that proofs cite.
pub mod Counts
pub mod Walks
pub mod Asked
pub mod Entries
pub mod Pushes
pub mod SameAnswers
