pub mod Declarations
pub mod Objects
pub mod Tags
pub use Rattle.im_check_initialisers.specs.im_word
pub use Rattle.im_ctree_parts.specs as im_ctree_parts
pub use Rattle.im_rules.specs as im_rules
pub use Rattle.im_check_initialisers.specs.im_rules_limits
pub use Rattle.im_check_declarators.specs as im_check_declarators
