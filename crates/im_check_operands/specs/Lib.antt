pub mod Answers
pub mod Shape
pub use Rattle.im_check_constancy.specs.im_rules
pub use Rattle.im_check_stop.specs.im_word
