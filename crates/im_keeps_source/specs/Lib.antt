pub mod Source
pub mod Laws
pub mod LoweringLaws
pub mod Middle
pub mod MiddleLaws
