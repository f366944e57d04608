-- Laws of this crate's definitions.
pub mod Encoding
pub mod Searching
pub mod Sizing
pub mod Laying
pub mod Checks
pub mod SameAnswers
