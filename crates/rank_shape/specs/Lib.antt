pub mod AnyShape
pub mod Fields
pub mod Order
pub mod Shape
pub mod Turn
pub mod Walk
pub mod Visits
