pub mod MakeEach
pub mod Marks
pub mod Small
