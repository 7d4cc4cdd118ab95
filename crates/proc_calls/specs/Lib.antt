pub mod Interfaces
pub mod Acts
pub mod Rules
pub mod Found
pub mod View
