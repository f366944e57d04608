-- What the functions of this crate do by the definition of the listing.
pub mod Parts
