pub mod Callees
pub mod Exits
