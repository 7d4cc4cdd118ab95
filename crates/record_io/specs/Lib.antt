pub mod Grammar
pub mod Looked
pub mod Values
