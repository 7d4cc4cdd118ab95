pub mod Filled
pub mod Intrinsics
pub mod MeantBy
