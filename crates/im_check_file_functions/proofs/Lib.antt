pub mod Own
pub mod Heading
pub mod Within
pub mod Entering
pub mod Counted
pub mod Beginning
pub mod Ending
pub mod Defining
