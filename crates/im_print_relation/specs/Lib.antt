pub mod Again
pub mod Fit
pub mod Levels
pub mod Printed
pub mod Text
pub mod Unnumbered
