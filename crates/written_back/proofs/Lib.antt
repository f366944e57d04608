-- What is read is written back, by the contracts.
pub mod WrittenBack
