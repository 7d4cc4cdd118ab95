pub mod Table
pub mod Interface
pub mod Finding
pub mod TableLaws
pub mod Standing
