pub mod Callees
pub mod Exits
pub mod Rows
pub mod Shown
