pub mod Build
pub mod UnitBuild
pub mod Operands
pub mod Intrinsics
pub mod Designators
pub mod Blocks
pub mod Values
pub mod Units
