pub mod NoIntegers
pub mod AssignmentsNoIntegers
