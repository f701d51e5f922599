pub mod Unmet
pub mod Loops
pub mod Front
pub mod WordLemmas
pub mod Taken
pub mod Again
pub mod Answered
pub mod Written
