pub mod Kept
mod Standing
mod Loading
