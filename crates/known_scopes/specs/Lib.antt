pub mod View
pub mod Asked
pub mod Sorts
pub mod Uses
pub mod Found
pub mod Reading
pub mod Listing
