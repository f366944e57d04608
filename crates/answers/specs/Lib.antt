-- What the calls of the C interface return.
pub mod Says
pub mod Nexts
