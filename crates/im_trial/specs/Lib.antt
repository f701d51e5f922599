pub mod Escapes
pub mod Finding
pub mod Judging
pub mod Numbers
pub mod Rows
pub mod Tables
pub mod Texts
