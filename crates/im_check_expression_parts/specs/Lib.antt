pub mod Walked
pub use Rattle.im_check_declarators.specs.im_ctype
pub use Rattle.im_rules.specs as im_rules
pub use Rattle.im_check_declarators.specs.im_rules_limits
pub use Rattle.im_check_declarators.specs.im_check_sizes
pub use Rattle.im_check_declarators.specs.im_word
pub use Rattle.im_check_place.specs.im_check_outline
