pub mod Functions
pub mod Values
pub use Rattle.im_check_sites.specs.im_word
pub use Rattle.im_check_sites.specs.im_store
pub use Rattle.im_check_sites.specs.im_rules
