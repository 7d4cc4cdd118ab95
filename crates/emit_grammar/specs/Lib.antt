pub mod Written
pub mod GrammarLaws
