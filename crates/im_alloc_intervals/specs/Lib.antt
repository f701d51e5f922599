pub mod Homes
pub mod Leaves
pub mod Lines
pub mod Marks
pub mod Scans
pub mod Tables
