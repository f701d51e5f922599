pub mod Laws
pub use Rattle.im_saved.specs as im_saved
pub mod Scan
pub mod LinesLaws
