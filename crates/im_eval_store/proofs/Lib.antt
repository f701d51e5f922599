pub mod Finding
pub mod Revised
pub mod Cells
pub mod Searches
pub mod Storing
pub mod Places
pub mod Lifetimes
