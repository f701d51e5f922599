pub mod Shown
pub mod Found
pub mod Laid
pub mod Entered
pub mod Ends
