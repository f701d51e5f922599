pub mod Expressions
pub mod Units
pub mod Tokens
pub mod Names
pub mod Functions
pub mod Objects
pub mod Cells
pub mod StaticsNames
