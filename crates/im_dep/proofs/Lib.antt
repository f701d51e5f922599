pub mod Lists
pub mod Covering
pub mod Behind
