pub mod Bytes
pub mod Faults
pub mod Lexing
pub mod Openings
pub mod Pieces
pub mod Runs
pub mod Tokens
