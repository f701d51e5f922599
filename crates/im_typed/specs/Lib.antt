pub mod Program
pub mod ProgramOf
pub mod Runs
pub mod Values
pub mod Meaning
pub mod Programs
pub mod Counts
pub mod Frames
pub mod Typing
pub mod Limits
pub mod Sound
pub mod Laws
pub mod Samples
pub use Rattle.im_store.specs.im_ctype
pub use Rattle.im_store.specs as im_store
pub use Rattle.im_serve.specs as im_serve
pub mod StructsLaws
