pub mod Copies
pub mod Forward
pub mod Known
pub mod Laws
pub mod Straight
pub mod Registers
pub mod RegistersLaws
