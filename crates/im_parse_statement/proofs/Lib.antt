pub mod Closing
pub mod Forms
pub mod BranchLines
pub mod LoopLines
pub mod ItemLines
pub mod Rows
