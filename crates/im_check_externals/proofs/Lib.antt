pub mod Longer
pub mod Defined
pub mod Within
pub mod Faults
pub mod Large
pub mod Declared
pub mod Declaring
pub mod Reached
