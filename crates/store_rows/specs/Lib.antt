pub mod Between
pub mod Pieces
pub mod Scatter
pub mod Where
