-- What the answers of this crate are by the definitions, and where a walk over both logs is.
pub mod Findings
pub mod Walks
