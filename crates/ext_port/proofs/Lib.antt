pub mod WantsLemmas
pub mod ContainLemmas
pub mod AttachmentLemmas
pub mod NextLemmas
pub mod FilesLemmas
pub mod SoundLemmas
pub mod StartLemmas
pub mod PlanLemmas
pub mod PutLemmas
pub mod StageLemmas
pub mod LawsLemmas
pub mod LeavesLemmas
pub mod OnePartsLemmas
pub mod OneAttachLemmas
pub mod MovedLemmas
pub mod NotGivenLemmas
mod RowLemmas
pub mod ForCallers
