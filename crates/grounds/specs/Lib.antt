-- What the functions of this crate do by the definition of nas-why.
pub mod Grounds
