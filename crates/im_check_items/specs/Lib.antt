pub mod Shape
pub use Rattle.im_check_conversions.specs.im_rules
pub use Rattle.im_ctree_parts.specs as im_ctree_parts
