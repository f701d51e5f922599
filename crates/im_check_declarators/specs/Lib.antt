pub mod Shape
pub mod Suffixes
pub use Rattle.im_check_type_specifiers.specs.im_word
pub use Rattle.im_rules.specs as im_rules
pub use Rattle.im_ctree_parts.specs as im_ctree_parts
pub use Rattle.im_check_type_specifiers.specs.im_tok
pub use Rattle.im_ctree.specs as im_ctree
pub use Rattle.im_ctype.specs as im_ctype
pub use Rattle.im_check_type_specifiers.specs.im_typed
pub use Rattle.im_types.specs as im_types
pub use Rattle.im_check_sizes.specs.im_rules_limits
pub use Rattle.im_check_scopes.specs as im_check_scopes
pub use Rattle.im_check_stop.specs as im_check_stop
pub use Rattle.im_check_sizes.specs as im_check_sizes
pub use Rattle.im_check_type_specifiers.specs as im_check_type_specifiers
