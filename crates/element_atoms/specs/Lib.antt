pub mod Added
pub mod Positions
pub mod Pairs
pub mod Dimensions
