pub mod LeastLemmas
pub mod ChangedLemmas
pub mod GoingLemmas
pub mod LawsLemmas
pub mod OneDetachLemmas
pub mod ForCallers
pub mod DetachedLemmas
