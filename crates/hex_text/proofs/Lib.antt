-- Laws that proofs cite, and examples.
pub mod HexLaws
pub mod HexExamples
