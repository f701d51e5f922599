mod Ends
mod Limits
mod Right
mod Rules
mod Units
