pub mod Shapes
pub mod NameFacts
