pub mod Until
pub mod Laws
