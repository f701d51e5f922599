mod Faulty
mod Ready
mod Layouts
mod Linked
mod Names
mod Rows
mod Short
