-- Laws that the proofs of this crate cite.
pub mod Finding
pub mod Walked
pub mod SameAnswers
