pub mod Rows
pub mod Numbered
pub mod Braces
pub mod Meets
pub mod Statements
pub mod Follows
pub mod Within
