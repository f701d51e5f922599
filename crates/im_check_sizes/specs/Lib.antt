pub mod Sizes
pub use Rattle.im_rules_limits.specs as im_rules_limits
