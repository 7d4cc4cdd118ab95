pub mod Told
pub mod Sites
pub mod Sizes
pub mod Results
pub mod Specifying
pub mod Asking
