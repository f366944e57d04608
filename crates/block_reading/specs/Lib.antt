-- What the answers of this crate are by the definitions.
pub mod Blocks
