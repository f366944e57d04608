-- Laws that proofs cite.
pub mod Accepted
pub mod Entered
pub mod Copied
pub mod Lining
