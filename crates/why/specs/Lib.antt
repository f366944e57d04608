-- What the answers of this crate are by the definition of why an element was set aside.
pub mod Whys
