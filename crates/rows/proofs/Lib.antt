-- Laws that proofs cite.
pub mod Steps
pub mod Laws
pub mod WholeRows
pub mod Indexed
pub mod PutRow
