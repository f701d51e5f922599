pub mod Cuts
pub mod Laws
pub use Rattle.im_keeps_source.specs as im_keeps_source
