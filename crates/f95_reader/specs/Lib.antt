pub mod Judging
pub mod Phases
pub mod Reading
pub mod Sizes
