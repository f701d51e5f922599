pub mod Laws
pub use Rattle.im_saved_code.specs.im_saved
