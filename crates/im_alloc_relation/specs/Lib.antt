pub mod Homes
pub mod Live
pub mod Reads
pub mod Placing
pub mod Settled
