pub mod LackingLemmas
pub mod OfferLemmas
pub mod ResourceLemmas
pub mod ToldLemmas
pub mod LawsLemmas
pub mod ForCallers
