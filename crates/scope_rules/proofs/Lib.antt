pub mod Results
pub mod Lines
pub mod Caps
pub mod Specified
