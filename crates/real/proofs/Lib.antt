-- What holds of every constant table and index.
pub mod RealLaws
pub mod Numbers
pub mod Passing
