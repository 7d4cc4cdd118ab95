pub mod Bodies
pub mod Trees
pub mod Statements
pub mod Whole
