pub mod Keeps
pub mod Forms
pub mod Behind
