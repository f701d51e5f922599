pub mod Checked
pub mod Counts
pub mod Stops
pub mod Units
pub use Rattle.im_rules.specs as im_rules
pub use Rattle.im_rules_limits.specs as im_rules_limits
pub use Rattle.im_rules_sound_unit.specs.im_rules_sound_expressions
pub use Rattle.im_rules_sound_unit.specs.im_rules_sound_places
