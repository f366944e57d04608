-- What entering IEIs in an index does.
pub mod Marks
