pub mod Unmarked
pub mod Memories
