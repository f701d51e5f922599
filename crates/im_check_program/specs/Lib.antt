pub mod Given
pub mod Known
pub mod Programs
