pub mod Passed
pub mod Built
pub mod Faults
pub mod Made
pub mod Ready
pub use Rattle.im_gap_ranked.specs.im_saved
pub mod Lowered
