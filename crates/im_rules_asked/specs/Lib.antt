pub mod Asked
pub mod DeclarationsSamples
pub mod Expressions
pub mod Initialisers
pub mod Laws
pub mod Limits
pub mod LimitsSamples
pub mod OperandsSamples
pub mod OperatorsSamples
pub mod Samples
pub mod Sizes
pub mod Statements
pub mod Units
pub mod UnitsSamples
pub use Rattle.im_rules.specs as im_rules
