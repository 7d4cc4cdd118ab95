pub mod ByRole
pub mod Steps
