pub mod Program
pub mod Linking
pub mod Laws
