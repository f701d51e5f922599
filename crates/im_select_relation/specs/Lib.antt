pub mod Linking
pub mod Selected
pub mod Linked
pub mod Law
pub mod Symbolic
pub mod Jumps
pub mod OperatorTables
pub mod OperatorLaws
