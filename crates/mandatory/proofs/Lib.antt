-- Laws of this crate's definitions.
pub mod Noting
pub mod Rowing
pub mod Judging
pub mod Filling
pub mod Checks
pub mod SameAnswers
