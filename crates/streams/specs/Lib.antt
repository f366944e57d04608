-- Of what is read into a buffer, and of how a program ends.
pub mod Counts
pub mod Statuses
