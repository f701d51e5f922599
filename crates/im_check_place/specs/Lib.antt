pub mod Contexts
pub mod Entered
pub mod Fields
pub use Rattle.im_check_scopes.specs.im_word
pub use Rattle.im_check_scopes.specs.im_rules
pub use Rattle.im_ctype.specs as im_ctype
pub use Rattle.im_check_scopes.specs.im_typed
pub use Rattle.im_check_scopes.specs as im_check_scopes
pub use Rattle.im_check_scopes.specs.im_store
pub use Rattle.im_check_outline.specs as im_check_outline
