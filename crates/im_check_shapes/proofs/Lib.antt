pub mod Alone
pub mod Falls
pub mod Texts
