pub mod Digits
pub mod Matched
pub mod Usual
