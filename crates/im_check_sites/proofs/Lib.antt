pub mod Sites
pub mod Statements
