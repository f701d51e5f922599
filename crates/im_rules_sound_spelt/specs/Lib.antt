pub mod Words
pub mod Laws
pub mod Namable
pub mod StaticsLaws
