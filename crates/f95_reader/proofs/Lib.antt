pub mod Judgements
pub mod LeastLaws
pub mod Lines
pub mod SourceLaws
pub mod TerminalCounts
pub mod TokenCounts
pub mod WholeLaws
