mod Spelled
mod Numerals
mod Literals
mod OneWord
