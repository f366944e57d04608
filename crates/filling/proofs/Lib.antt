-- Laws that proofs cite.
pub mod Filling
pub mod ByIndex
pub mod Front
pub mod Own
pub mod Noting
pub mod Arrays
pub mod SameAnswers
