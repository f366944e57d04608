-- What a text of hex digits means, and how the code goes.
pub mod Hex
pub mod Steps
