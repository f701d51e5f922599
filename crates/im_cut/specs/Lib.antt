pub mod Greedy
pub mod Sweep
pub mod Laws
pub mod Stands
pub mod Lines
pub mod Blocks
