pub mod Appending
pub mod Files
pub mod Reading
pub mod Pieces
pub mod Refusals
pub mod MemFiles
pub mod OpenFile
