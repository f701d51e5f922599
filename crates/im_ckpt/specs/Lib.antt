pub mod Runs
pub mod Buffers
pub mod Recovery
pub mod Registers
pub mod Checkpoint
pub mod Laws
