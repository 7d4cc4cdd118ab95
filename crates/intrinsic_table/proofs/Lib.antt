pub mod Found
pub mod Keywords
pub mod Numerals
