pub mod Build
pub mod Scalars
pub mod Shapes
pub mod Procedures
pub mod Modules
pub mod Corners
