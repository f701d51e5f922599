pub mod Constants
pub mod Values
pub mod Bodies
pub mod Functions
pub mod Units
