pub mod OrderLemmas
pub mod ReachedLemmas
pub mod ListedLemmas
pub mod LawsLemmas
pub mod ForCallers
