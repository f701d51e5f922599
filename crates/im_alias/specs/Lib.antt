pub mod Ascending
pub mod Sets
pub mod Scan
pub mod PointsAt
pub mod Least
pub mod Laws
