pub mod Promote
pub mod Written
pub mod Promoted
pub mod Words
pub mod Homes
pub mod Laws
