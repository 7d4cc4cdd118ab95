pub mod Left
pub mod Texts
pub mod Progress
pub mod Written
pub mod Collected
