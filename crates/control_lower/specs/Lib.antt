pub mod Trees
pub mod Units
pub mod Lowers
pub mod Settled
pub mod Limits
pub mod Rows
pub mod Laws
