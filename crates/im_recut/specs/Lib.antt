pub mod Laws
pub mod Recut
