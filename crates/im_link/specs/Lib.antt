pub mod Parts
pub mod Links
pub mod Cuts
pub mod Code
pub mod Laws
pub mod State
pub mod Linking
