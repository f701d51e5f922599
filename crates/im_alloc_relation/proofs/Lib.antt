pub mod Slots
pub mod Seen
pub mod Walks
pub mod Results
pub mod Lines
pub mod Straight
pub mod Calls
pub mod Whole
