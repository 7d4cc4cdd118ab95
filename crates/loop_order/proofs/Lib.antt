pub mod Signs
pub mod Choices
pub mod Turns
pub mod Lefts
pub mod Greedy
pub mod Turned
