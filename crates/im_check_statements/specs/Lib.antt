pub mod Checked
pub mod Forms
pub use Rattle.im_check_statement_forms.specs.im_word
pub use Rattle.im_ctype.specs as im_ctype
pub use Rattle.im_check_statement_forms.specs.im_rules_limits
pub use Rattle.im_check_statement_forms.specs.im_store
