pub mod Assembled
pub mod Names
