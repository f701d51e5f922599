pub mod Shape
pub mod Search
pub mod Indexed
pub mod Contexts
pub use Rattle.im_check_name_map.specs.im_word
pub use Rattle.im_check_name_map.specs.im_rules
pub use Rattle.im_check_name_map.specs.im_typed
pub use Rattle.im_store.specs as im_store
pub use Rattle.im_check_name_map.specs.im_tok
