pub mod Tables
pub mod Parsing
pub mod Declaring
pub mod Cores
pub mod Initializing
pub mod Casts
