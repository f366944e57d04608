-- What pushing an entry by its number is.
pub mod Entries
