-- Laws that the proofs of this crate cite, and examples.
pub mod Saying
pub mod Examples
