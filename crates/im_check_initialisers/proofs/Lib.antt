pub mod Declared
pub mod Forms
pub mod Members
pub mod Put
pub mod Reached
pub mod Within
