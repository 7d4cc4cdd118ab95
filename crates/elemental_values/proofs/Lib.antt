pub mod SeenLists
pub mod Signs
