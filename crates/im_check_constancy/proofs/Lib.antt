pub mod ToldValues
