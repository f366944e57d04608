-- Laws that the proofs of this crate cite, and examples.
pub mod Reading
pub mod Answers
pub mod Examples
