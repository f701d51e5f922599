pub mod Beyond
pub mod Placed
pub mod Plain
pub mod Steps
pub mod Wanted
pub mod Whole
