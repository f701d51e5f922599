pub mod Forms
pub mod Links
pub use Rattle.im_check_expression_parts.specs.im_word
pub use Rattle.im_check_expression_parts.specs.im_rules
pub use Rattle.im_check_expression_parts.specs.im_rules_limits
pub use Rattle.im_check_declarators.specs as im_check_declarators
pub use Rattle.im_check_expression_parts.specs.im_check_outline
