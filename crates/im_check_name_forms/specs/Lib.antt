pub mod Entities
pub mod Lists
