pub mod Types
pub mod Parts
pub mod Declarators
pub mod Expressions
