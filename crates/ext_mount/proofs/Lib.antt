pub mod PrintedLemmas
pub mod WordLemmas
pub mod LawsLemmas
pub mod StoreLemmas
pub mod RunLemmas
pub mod GenerationLemmas
pub mod FittingLemmas
pub mod ShowingLemmas
