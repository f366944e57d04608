-- Laws that the proofs of this crate and of those over it cite.
pub mod Puts
pub mod Lines
pub mod Said
