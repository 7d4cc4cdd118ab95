pub mod At
pub mod Rows
pub mod Braces
pub mod Numbered
pub mod Meets
pub mod Statements
pub mod Follows
pub mod Within
