pub mod Parts
pub mod Assembling
pub mod One
pub mod Naming
