pub mod VersionsLemmas
pub mod ForCallers
