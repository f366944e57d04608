-- Laws that the proofs of this crate cite, and what the pass is to writing.
pub mod Turns
pub mod Outputs
pub mod Written
pub mod Examples
