pub mod Told
pub use Rattle.im_rules.specs as im_rules
