pub mod ExternalLines
pub mod UnitLines
pub mod Parsing
pub mod Cut
pub mod Runs
