-- Laws that proofs cite.
pub mod Held
pub mod First
pub mod Turns
pub mod Own
pub mod Answered
