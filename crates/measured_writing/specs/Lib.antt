-- What the answers of this crate are by the definitions.
pub mod Added
pub mod Sizes
pub mod Encodes
