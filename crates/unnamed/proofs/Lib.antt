-- Laws that the proofs of this crate cite, and what the names are to a well-formed log.
pub mod Naming
pub mod Logged
