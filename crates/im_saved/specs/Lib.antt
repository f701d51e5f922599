pub mod Liveness
pub mod Laws
pub mod ImageLaws
