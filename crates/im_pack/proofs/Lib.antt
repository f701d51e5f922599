pub mod Views
pub mod Cells
pub mod Statics
pub mod Joined
pub mod Naming
pub mod Whole
pub mod Steps
