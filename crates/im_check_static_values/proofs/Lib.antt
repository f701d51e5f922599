pub mod Constants
pub mod Conversions
pub mod FilePlaces
pub mod GivenValues
pub mod Elements
pub mod Stepping
pub mod Walks
