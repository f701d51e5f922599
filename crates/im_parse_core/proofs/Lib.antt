pub mod PlacesAt
pub mod KnownNames
pub mod Steps
pub mod Lists
pub mod Repeats
pub mod Conditions
pub mod SeparatedLists
pub mod TrailingLists
