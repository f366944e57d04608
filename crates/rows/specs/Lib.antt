-- What the answers of this crate are by the definitions.
pub mod Forms
pub mod Numbers
pub mod Indexed
pub mod Answers
pub mod Lent
