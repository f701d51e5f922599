pub mod Functions
pub mod Programs
pub mod Answering
pub mod Whole
