pub mod Laws
pub use Rattle.im_rules_sound_places.specs as im_rules_sound_places
pub use Rattle.im_rules_sound_expressions.specs as im_rules_sound_expressions
