pub mod Derivations
pub mod Ranks
pub mod Behind
pub mod Unique
pub mod UniqueUnits
pub mod Refusals
