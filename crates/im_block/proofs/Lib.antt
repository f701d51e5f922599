pub mod Words
pub mod Unitwise
pub mod Cost
pub mod Twins
pub mod Bytes
pub mod Sections
pub mod Flows
pub mod Stores
