pub mod Force
pub mod Laws
