pub mod Dimensions
