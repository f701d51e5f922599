mod Right
mod Promises
mod Lines
pub mod Needs
