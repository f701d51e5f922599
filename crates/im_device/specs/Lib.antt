pub mod Run
pub mod Periods
pub mod Load
pub mod Shows
pub mod Variables
pub mod Laws
pub mod LoadedLaws
