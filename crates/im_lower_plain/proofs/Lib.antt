pub mod Growth
pub mod Grown
pub mod Coded
pub mod GrownStatements
pub mod CodedStatements
pub mod Units
