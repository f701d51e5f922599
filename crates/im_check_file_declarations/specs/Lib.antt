pub mod Declarations
pub mod Steps
pub use Rattle.im_check_file_specifiers.specs.Answers
