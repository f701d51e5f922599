mod Events
mod Bounds
mod Units
mod Commits
mod Steady
mod Prepared
mod Compose
