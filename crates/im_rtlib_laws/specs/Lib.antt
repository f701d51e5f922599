pub mod Standing
pub mod Seen
pub mod Laws
pub mod Orderly
pub mod SectionsLaws
