pub mod TestLemmas
pub mod PathLemmas
pub mod ExpandLemmas
pub mod NumberLemmas
pub mod BoundsLemmas
pub mod LawsLemmas
pub mod ForCallers
