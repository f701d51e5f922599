pub mod Words
pub mod Shown
pub mod Roles
pub mod Nesting
pub mod Tally
pub mod Tokens
pub use Rattle.im_num.specs as im_num
