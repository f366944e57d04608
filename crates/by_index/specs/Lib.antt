-- What a table and any index say.
pub mod ByIndex
