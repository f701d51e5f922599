pub mod Digits
pub mod Keywords
pub mod Literals
pub mod Numbers
pub mod Punctuators
