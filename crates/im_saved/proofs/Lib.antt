mod Rows
mod Places
mod Backward
mod Beginning
