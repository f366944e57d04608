-- What the answers of this crate are by the definitions.
pub mod Checks
pub mod Walks
