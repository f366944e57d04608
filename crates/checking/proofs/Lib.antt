-- Laws that proofs cite.
pub mod Walking
pub mod SameAnswers
