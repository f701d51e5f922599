pub mod Joined
pub mod Frames
pub mod Lying
mod Pointers
mod Values
mod Shown
