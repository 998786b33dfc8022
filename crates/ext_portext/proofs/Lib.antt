mod InsideLemmas
mod LayerLemmas
mod UnitTreeLemmas
mod ContentLemmas
mod ExtensionLemmas
mod FailLemmas
mod WantsLemmas
mod LeavesLemmas
mod RowLemmas
pub mod OneExtensionLemmas
pub mod OneExtendedLemmas
pub mod MovedExtendedLemmas
pub mod ForCallers
