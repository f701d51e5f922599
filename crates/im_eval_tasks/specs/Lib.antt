pub mod Found
pub mod Laws
pub mod Stack
pub mod Tasks
