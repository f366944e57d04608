-- Laws of sets of places.
pub mod Sets
