-- Laws of the answers that proofs cite.
pub mod First
pub mod Laws
