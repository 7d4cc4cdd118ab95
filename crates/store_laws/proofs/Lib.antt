pub mod BodyLaws
pub mod FusionLaws
pub mod LegalLaws
pub mod LoopLaws
pub mod ManyOneLaws
pub mod MaskLaws
pub mod StoreLaws
pub mod TemporaryLaws
