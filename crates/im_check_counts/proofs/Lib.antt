pub mod Rest
pub mod Found
pub mod Declarators
pub mod Bytes
pub mod Derived
