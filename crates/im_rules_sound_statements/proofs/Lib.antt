pub mod Fits
pub mod Standing
pub mod Shapes
pub mod Initialisers
pub mod Sites
pub mod Labels
pub mod Declarations
pub mod Statements
