pub mod Names
pub mod Reads
pub mod Parts
pub mod Places
pub mod Lists
pub mod Repeats
