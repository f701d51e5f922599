pub mod Source
pub mod Machine
pub mod Passes
pub mod Laws
