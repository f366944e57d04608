-- Laws that proofs cite.
pub mod BadRows
pub mod Steps
pub mod RowChecks
pub mod Laws
