-- What stands in a recorded list, its answers, and what lent memory holds after a case.
pub mod Format
pub mod Answer
pub mod Lent
pub mod Runs
