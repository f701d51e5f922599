pub mod Added
