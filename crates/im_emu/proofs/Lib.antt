pub mod Stretches
pub mod Periods
pub mod Loads
pub mod Layouts
pub mod Places
pub mod Resumed
