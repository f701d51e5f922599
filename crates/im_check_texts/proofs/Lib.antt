pub mod Appended
pub mod Chains
pub mod Places
