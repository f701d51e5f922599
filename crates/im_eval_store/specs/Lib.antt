pub mod Shown
pub mod Plans
pub mod Living
pub mod Changes
