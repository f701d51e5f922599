mod Lists
mod Ascendings
mod Adding
mod Flows
mod Growing
mod Scans
mod Codes
mod Tagging
mod Blocks
mod Whole
mod Units
mod Steps
mod Making
mod Arms
mod Turns
mod Endings
mod Giving
mod Finding
pub mod Leasts
pub mod PointsAts
pub mod Finers
pub mod LeastTags
