pub mod Emitted
pub mod Leads
pub mod Given
pub mod Places
pub mod Selects
