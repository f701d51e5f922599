pub mod Refined
mod Silent
