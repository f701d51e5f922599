pub mod Asked
pub mod Done
pub mod Labelling
pub mod Opening
pub use Rattle.im_check_locals.specs.Declarations
pub use Rattle.im_check_locals.specs.im_word
pub use Rattle.im_check_locals.specs.im_rules_limits
pub use Rattle.im_store.specs as im_store
