pub mod Compared
pub mod Shape
