pub mod Nodes
pub mod Induction
pub mod Views
