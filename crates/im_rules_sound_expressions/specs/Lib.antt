pub mod Bounded
pub mod Written
pub mod Laws
