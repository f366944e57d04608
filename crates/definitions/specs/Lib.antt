-- The definitions, from the octets up. All that a reader has to believe is here, and nothing here speaks of code.
-- Names in quotes are document 01's sections; TS 24.007 and TS 24.501 are 3GPP's.
pub mod Basic
pub mod Octets
pub mod Rows
pub mod Tables
pub mod Length
pub mod Elements
pub mod Logs
pub mod Reading
pub mod Block
pub mod Checking
pub mod Values
pub mod Writing
pub mod Mandatory
pub mod Findings
pub mod Listing
pub mod Why
