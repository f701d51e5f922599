pub mod Made
pub mod Make
pub mod MakeStatement
pub mod MakeUnit
pub mod Laws
