pub mod Answers
pub mod Enumerators
pub mod Lists
pub mod Sizes
pub mod Words
pub use Rattle.im_check_expressions.specs.im_word
pub use Rattle.im_ctype.specs as im_ctype
pub use Rattle.im_rules_limits.specs as im_rules_limits
