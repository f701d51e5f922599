pub mod Mirror
mod Steps
mod Cuts
mod Stores
mod Follow
pub mod Accesses
pub mod Effects
pub mod Fetches
pub mod Flips
pub mod Going
pub mod Returning
pub mod Sectioned
pub mod Wars
