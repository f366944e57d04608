-- Laws that proofs cite.
pub mod Checking
pub mod Showing
pub mod SameAnswers
