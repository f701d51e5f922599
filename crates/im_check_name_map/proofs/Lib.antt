pub mod SameNames
pub mod Numbers
pub mod Places
