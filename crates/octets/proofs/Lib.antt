-- Laws of the answers that callers cite.
pub mod Laws
