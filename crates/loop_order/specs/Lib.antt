pub mod Apart
pub mod Choice
pub mod Left
pub mod Legal
