pub mod Numbers
pub mod Trees
pub mod Statements
pub mod Emits
pub mod Meets
pub mod Kin
pub mod EmitLaws
