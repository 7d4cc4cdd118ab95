pub mod FitLaws
pub mod LeastLaws
pub mod SizeLaws
pub mod UnitLaws
pub mod WholeLaws
