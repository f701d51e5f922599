pub mod Alone
pub mod Behind
pub mod Demands
pub mod Locals
pub mod Reaching
pub mod Specifying
pub mod Within
