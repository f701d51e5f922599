pub mod Tree
pub mod Typedefs
pub mod Operators
pub mod Grammar
pub mod Units
pub mod Follow
pub mod Shape
pub mod Samples
pub use Rattle.im_word.specs.im_num
pub use Rattle.im_tok.specs as im_tok
pub use Rattle.im_word.specs as im_word
