pub mod Heads
pub mod Bodies
pub mod Definitions
pub use Rattle.im_check_statements.specs.im_word
pub use Rattle.im_check_statements.specs.im_ctype
pub use Rattle.im_typed.specs as im_typed
pub use Rattle.im_check_statements.specs.im_rules_limits
pub use Rattle.im_check_statements.specs.im_store
pub use Rattle.im_types.specs as im_types
