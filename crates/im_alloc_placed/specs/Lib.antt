pub mod Operands
pub mod Placed
pub mod Placeable
pub mod Apart
pub mod Laws
