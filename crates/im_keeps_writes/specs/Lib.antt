pub mod Writes
pub mod Laws
pub mod Bound
pub mod FunctionBound
