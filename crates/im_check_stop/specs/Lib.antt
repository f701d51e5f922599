pub mod Answers
pub use Rattle.im_rules.specs.im_word
pub use Rattle.im_rules.specs as im_rules
