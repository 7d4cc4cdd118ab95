pub mod Bodies
pub mod Fusion
pub mod Legal
pub mod Loops
pub mod ManyOne
pub mod Masked
pub mod Store
