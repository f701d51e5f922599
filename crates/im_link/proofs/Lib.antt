pub mod Joining
pub mod Keeping
pub mod Accessing
pub mod Cutting
pub mod Laying
pub mod Whole
pub mod Checking
