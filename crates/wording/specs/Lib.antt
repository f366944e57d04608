-- Text in a lent buffer, the line of an element, and what a text tells.
pub mod Puts
pub mod Lines
pub mod Told
