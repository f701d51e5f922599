pub mod Growing
pub mod Places
pub mod Bytes
pub mod Specifiers
pub mod Heads
pub mod Files
