pub mod Ahead
pub mod Settings
pub mod Shows
