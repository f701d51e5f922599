pub mod State
pub mod Resume
pub mod Stretch
pub mod Layouts
pub mod Laws
