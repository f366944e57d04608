-- What the answers of this crate are by the definitions.
pub mod Fills
pub mod Decodes
pub mod Noted
pub mod Filled
