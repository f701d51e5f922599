pub mod Leaves
pub mod Numbers
pub mod Parts
pub mod Places
pub mod Sample
