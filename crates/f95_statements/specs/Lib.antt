pub mod Actions
pub mod Declarations
