pub mod OrderLemmas
pub mod StepLemmas
pub mod BelowLemmas
pub mod LawsLemmas
pub mod LinesLemmas
pub mod ForCallers
