pub mod Accesses
pub mod Views
pub mod Words
