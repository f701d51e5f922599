pub mod Checkpoints
pub mod Loads
pub mod Phases
pub mod Pushing
pub mod Resume
pub mod Rungs
pub mod Slots
