-- A set of places as a number.
pub mod Seen
