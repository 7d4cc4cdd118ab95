pub mod Moves
pub mod Plans
pub mod Running
pub mod Steps
