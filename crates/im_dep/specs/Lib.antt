pub mod Sites
pub mod Spans
pub mod Exposed
