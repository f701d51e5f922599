pub mod Faults
pub mod Header
pub mod Laws
pub mod Text
