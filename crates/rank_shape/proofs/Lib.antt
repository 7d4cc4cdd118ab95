pub mod Shapes
pub mod Numbers
pub mod Orders
pub mod Walks
pub mod Elements
pub mod Reorders
pub mod Steps
