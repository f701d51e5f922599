pub mod Parts
pub mod Shape
pub use Rattle.im_check_stop.specs.im_word
pub use Rattle.im_check_stop.specs.im_rules
