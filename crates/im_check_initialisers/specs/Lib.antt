pub mod Forms
pub mod Given
pub use Rattle.im_check_expressions.specs.im_word
pub use Rattle.im_ctype.specs as im_ctype
pub use Rattle.im_check_expressions.specs.im_rules_limits
pub use Rattle.im_check_expressions.specs.im_check_outline
