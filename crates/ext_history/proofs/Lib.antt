pub mod ListLemmas
pub mod NextLemmas
pub mod KeepingLemmas
pub mod OneLemmas
pub mod ForCallers
