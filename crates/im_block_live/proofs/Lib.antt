pub mod Bits
pub mod Paths
pub mod Sweeping
pub mod Pointed
