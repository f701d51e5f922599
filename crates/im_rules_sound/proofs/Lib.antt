pub mod Operations
pub mod Terms
pub mod Changes
pub mod Assigns
pub mod Calls
pub mod Members
