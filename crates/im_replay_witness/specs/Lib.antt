pub mod Images
pub mod Loop
pub mod Counter
pub mod Writer
pub mod GapLoop
pub mod Laws
