pub mod Build
pub mod Arguments
pub mod Procedures
