pub mod ArgumentLists
pub mod Keywords
