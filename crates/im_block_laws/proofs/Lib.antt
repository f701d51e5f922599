pub mod Kept
pub mod Pointing
pub mod Points
pub mod Premises
