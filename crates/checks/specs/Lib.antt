-- What the checks do row by row, and what they answer by the definitions.
pub mod Passes
pub mod Answers
