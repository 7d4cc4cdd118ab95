pub mod Settled
pub mod Ranks
