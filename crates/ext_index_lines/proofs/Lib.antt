pub mod LineLemmas
pub mod ForCallers
