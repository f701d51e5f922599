pub mod Front
pub mod Labels
pub mod Memory
pub mod Near
pub mod Objects
pub mod Counting
pub mod Image
