pub mod Search
pub mod Meaning
pub mod Indexed
pub mod Found
pub mod Steps
