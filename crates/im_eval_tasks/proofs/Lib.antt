pub mod Begins
pub mod Binds
pub mod Bounds
pub mod Expressions
pub mod Sources
pub mod Rows
pub mod SmallNumbers
