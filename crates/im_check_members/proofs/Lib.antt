pub mod Named
pub mod Walk
pub mod Rule
pub mod Made
