pub mod ActionLaws
pub mod AttributeLaws
pub mod AttributeSteps
pub mod ConditionLaws
pub mod DeclarationLaws
pub mod PrefixSteps
pub mod ProcedureLaws
pub mod TypeLaws
