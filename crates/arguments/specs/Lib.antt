-- What a word that is handed to a program means.
pub mod Words
