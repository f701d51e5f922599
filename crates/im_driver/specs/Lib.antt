pub mod Compiled
pub mod Refused
pub mod Steps
pub use Rattle.im_keeps_built.specs as im_keeps_built
