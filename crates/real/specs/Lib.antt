-- The constants of this crate by table number.
pub mod Real
pub mod Numbered
