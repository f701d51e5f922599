pub mod Addresses
pub mod Statics
pub mod Named
