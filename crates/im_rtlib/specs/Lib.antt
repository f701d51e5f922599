pub mod Routines
pub mod Laws
