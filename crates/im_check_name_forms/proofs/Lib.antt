pub mod Passed
pub mod Rows
