-- What the functions of this crate do by the definition of nas-check.
pub mod Verdicts
