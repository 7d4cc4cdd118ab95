pub mod Section
pub mod Dimensions
pub mod Ascent
pub mod Fields
pub mod Form
pub mod Merging
