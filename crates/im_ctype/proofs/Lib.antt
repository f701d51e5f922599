pub mod Building
pub mod CellLists
pub mod Compared
pub mod Grown
pub mod MoreStructs
pub mod Numbered
pub mod Places
mod Pushed
pub mod Rounded
pub mod Same
pub mod Steps
pub mod StructCells
pub mod Walked
