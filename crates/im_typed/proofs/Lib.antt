mod RowCounts
mod Endless
pub mod Related
pub mod Parts
pub mod Induction
pub mod Whole
pub mod Sounds
pub mod SoundCells
pub mod SoundExprs
pub mod SoundStmts
pub mod SoundCalls
pub mod SoundRuns
pub mod Layouts
pub mod Same
