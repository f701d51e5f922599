pub mod Externals
pub mod Faults
pub mod Large
pub use Rattle.im_check_file_functions.specs.im_ctype
pub use Rattle.im_check_file_functions.specs.im_word
pub use Rattle.im_check_file_functions.specs.im_store
pub use Rattle.im_check_file_functions.specs.im_types
