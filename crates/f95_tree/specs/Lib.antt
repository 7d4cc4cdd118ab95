pub mod Levels
pub mod Spelling
pub mod Grades
pub mod Forms
pub mod WellFormed
