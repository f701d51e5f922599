pub mod Still
mod Always
mod Ended
