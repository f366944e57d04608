-- What the answers of this crate are by the definitions.
pub mod Steps
pub mod Walked
pub mod Nexts
pub mod Iterates
