-- Laws that the proofs of this crate, and of those that put elements, cite.
pub mod Putting
