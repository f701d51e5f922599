pub mod Runs
pub mod Reading
pub mod Sentences
pub mod Message
