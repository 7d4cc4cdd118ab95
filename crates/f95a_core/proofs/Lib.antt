pub mod Reaching
pub mod Rows
pub mod Turns
pub mod Sums
pub mod Elements
pub mod Loops
pub mod Actions
pub mod Statements
pub mod Whole
pub mod Both
pub mod Grammatical
pub mod Taking
pub mod Joined
pub mod Ends
mod Noting
mod Completed
mod Lowering
mod Built
