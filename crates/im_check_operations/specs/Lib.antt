pub use Rattle.im_check_conversions.specs.im_rules
pub use Rattle.im_typed.specs as im_typed
