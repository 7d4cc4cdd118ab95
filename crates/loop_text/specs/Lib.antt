pub mod Guess
pub mod Reader
pub mod Refused
