pub mod Reach
pub mod Orderly
