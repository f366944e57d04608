-- Laws that the proofs of this crate cite, and examples.
pub mod Finding
pub mod Checked
pub mod Examples
