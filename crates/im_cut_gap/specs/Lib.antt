pub mod Costs
pub mod Gaps
pub mod Laws
pub mod Sweep
pub mod Starts
pub mod Remaining
