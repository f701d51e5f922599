pub mod Contents
pub mod Text
pub mod Faults
pub mod Upgrade
pub mod Header
pub mod Laws
