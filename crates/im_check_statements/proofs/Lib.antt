pub mod Cases
pub mod Composed
pub mod Items
pub mod Loops
pub mod Moved
pub mod Trees
pub mod Within
