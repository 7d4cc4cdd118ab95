pub mod References
pub mod Rules
pub mod Listed
pub mod Broken
pub mod Laws
pub mod Walk
