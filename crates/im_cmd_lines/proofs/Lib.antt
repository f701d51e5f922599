pub mod Joined
pub mod Grouped
pub mod WordLines
