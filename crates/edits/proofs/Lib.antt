-- Laws that the proofs of this crate cite.
pub mod Logged
pub mod Editing
pub mod SameAnswers
