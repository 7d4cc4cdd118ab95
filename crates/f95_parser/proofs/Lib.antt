pub mod Depths
pub mod BlockLaws
pub mod UnitLaws
pub mod FormLaws
pub mod Unbroken
