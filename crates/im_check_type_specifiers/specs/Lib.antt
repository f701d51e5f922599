pub mod Lines
pub mod Lists
pub mod Specified
pub mod Tags
pub use Rattle.im_check_scopes.specs.im_word
pub use Rattle.im_check_scopes.specs.im_tok
pub use Rattle.im_check_scopes.specs.im_typed
