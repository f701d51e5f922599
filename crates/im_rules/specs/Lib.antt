pub mod BodyBreaks
pub mod Breaks
pub mod Constants
pub mod Context
pub mod Conversions
pub mod Declared
pub mod Demands
pub mod FileScope
pub mod Initialisers
pub mod Laws
pub mod Outline
pub mod Rules
pub mod Samples
pub mod Scopes
pub mod Statements
pub mod StaticValues
pub mod Strings
pub mod Terms
pub mod Typed
pub mod TypedUnit
pub mod TypeTests
pub mod UnitBreaks
pub use Rattle.im_ctree.specs.im_word
pub use Rattle.im_ctree.specs as im_ctree
pub use Rattle.im_typed.specs.im_ctype
pub use Rattle.im_typed.specs as im_typed
pub use Rattle.im_ctree.specs.im_tok
