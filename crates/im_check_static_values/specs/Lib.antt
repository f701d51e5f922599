pub mod Chains
pub mod Firsts
pub mod Given
pub mod Spots
