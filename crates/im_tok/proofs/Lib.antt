mod DigitsGrow
pub mod Elements
mod Strings
mod KeywordPlaces
mod Numerals
mod PunctuatorPlaces
