-- What the answers of this crate are by what is recorded.
pub mod Places
