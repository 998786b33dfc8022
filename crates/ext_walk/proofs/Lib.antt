pub mod WalkLemmas
pub mod PartsLemmas
pub mod EndLemmas
pub mod LeadsLemmas
pub mod RowLemmas
pub mod NextLemmas
pub mod ForCallers
