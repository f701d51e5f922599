pub mod Externals
pub mod Dimensions
pub mod DimensionRuns
pub mod Spelling
