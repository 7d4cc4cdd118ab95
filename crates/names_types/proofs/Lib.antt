pub mod Listing
pub mod Declaring
pub mod Seeing
pub mod SeeingStatements
