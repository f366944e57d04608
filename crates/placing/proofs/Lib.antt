-- Laws that the proofs of this crate cite, and those of the crates above.
pub mod Pieces
pub mod Judging
pub mod Copies
