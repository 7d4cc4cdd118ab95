pub mod Made
pub mod View
pub mod Laws
