pub mod Numbers
pub mod Lists
pub use Rattle.im_rules.specs.im_word
pub use Rattle.im_rules.specs as im_rules
pub use Rattle.im_rules.specs.im_ctype
pub use Rattle.im_rules.specs.im_typed
pub use Rattle.im_rules.specs.im_tok
