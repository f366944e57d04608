-- Laws that proofs cite.
pub mod Frames
pub mod Came
pub mod Steps
pub mod Nexts
pub mod Stepping
pub mod OneStep
pub mod Walks
pub mod Iterated
