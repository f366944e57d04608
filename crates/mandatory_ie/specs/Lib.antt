-- What the answer of this crate is by the definitions.
pub mod Founds
