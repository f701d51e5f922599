pub mod Map
pub mod Memory
