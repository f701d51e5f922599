pub mod Apart
pub mod Keeps
