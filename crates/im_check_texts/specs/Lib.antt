pub mod Texts
pub use Rattle.im_check_shapes.specs.im_word
pub use Rattle.im_check_shapes.specs.im_rules
