pub mod Declarators
pub mod External
pub mod Firsts
pub mod Within
