pub mod Sites
pub mod Stmts
pub use Rattle.im_check_place.specs.im_ctype
pub use Rattle.im_check_place.specs.im_store
pub use Rattle.im_check_place.specs.im_rules
pub use Rattle.im_check_place.specs.im_word
