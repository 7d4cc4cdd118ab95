pub mod Arithmetic
pub mod Spread
