-- Laws that proofs cite.
pub mod Laws
