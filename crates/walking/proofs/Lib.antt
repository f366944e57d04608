-- Laws that the proofs of this crate cite.
pub mod Laying
pub mod Elements
pub mod Runs
