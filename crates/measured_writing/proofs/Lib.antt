-- Laws that the proofs of this crate cite.
pub mod Asides
pub mod Cursor
pub mod Places
pub mod Tallying
pub mod Surveying
pub mod Walked
pub mod Encoding
pub mod SameAnswers
