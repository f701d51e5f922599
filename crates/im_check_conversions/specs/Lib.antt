pub use Rattle.im_check_operands.specs.im_rules
pub use Rattle.im_check_operands.specs.im_word
