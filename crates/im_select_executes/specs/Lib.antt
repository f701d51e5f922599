pub mod Executing
pub mod Laws
pub mod Survives
