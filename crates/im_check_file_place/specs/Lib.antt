pub mod Files
pub mod Predeclared
