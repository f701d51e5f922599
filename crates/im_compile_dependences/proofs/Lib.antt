pub mod Members
pub mod Uncut
pub mod Forcing
pub mod Recutting
pub mod Placing
