pub mod PrefixLemmas
pub mod SearchLemmas
pub mod SightLemmas
pub mod LineLemmas
pub mod ChangesLemmas
pub mod ShownLemmas
pub mod LawsLemmas
pub mod ForCallers
