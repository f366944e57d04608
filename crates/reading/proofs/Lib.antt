-- Laws that proofs cite.
pub mod ByNumber
