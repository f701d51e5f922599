pub mod Firsts
pub mod Growing
pub mod Making
