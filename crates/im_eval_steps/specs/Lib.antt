pub mod Going
pub mod Seen
