pub mod Unmet
pub mod PageLemmas
pub mod Again
pub mod Taken
pub mod Front
pub mod Loops
pub mod Written
