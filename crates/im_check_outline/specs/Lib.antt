pub mod Walked
pub mod Outlines
pub use Rattle.im_check_name_map.specs.im_rules
pub use Rattle.im_ctree_parts.specs as im_ctree_parts
