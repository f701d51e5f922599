pub mod Buildable
pub mod Shell
pub mod Unplaced
