pub mod Lists
pub mod Placed
pub mod Nesting
pub mod Machine
pub mod Breaks
pub mod Kinds
pub mod Roles
