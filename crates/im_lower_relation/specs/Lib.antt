pub mod Codes
pub mod Statements
pub mod Lowered
pub mod Agrees
pub mod Laws
