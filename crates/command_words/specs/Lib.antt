pub mod CommandLine
pub mod Commands
pub mod Seen
pub mod UsualWords
