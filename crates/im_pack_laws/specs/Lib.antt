pub mod Places
pub mod Laws
pub mod ImageLaws
pub use Rattle.im_keeps_passes.specs as im_keeps_passes
