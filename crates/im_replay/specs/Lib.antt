pub mod Needed
pub mod Sections
pub mod Uninterrupted
pub mod Owed
pub mod Compiled
pub mod Replays
pub mod Output
pub mod Laws
