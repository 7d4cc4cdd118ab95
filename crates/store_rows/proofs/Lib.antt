pub mod BetweenLaws
pub mod PieceLaws
pub mod ScatterLaws
pub mod WhereLaws
