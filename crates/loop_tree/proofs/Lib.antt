pub mod Balanced
pub mod Octal
pub mod Outcomes
pub mod Runs
pub mod Lessens
pub mod Exists
pub mod Trees
pub mod Bodies
