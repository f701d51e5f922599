pub mod Below
pub mod Cases
pub mod Counting
pub mod Naming
pub mod Numbers
pub mod Reading
pub mod Taking
pub mod Tests
