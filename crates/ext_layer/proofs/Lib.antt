pub mod Prefixes
pub mod OverlayLemmas
pub mod OverlaySteps
pub mod OverlayAdvance
pub mod JoiningLemmas
pub mod LayeredLemmas
pub mod LawsLemmas
pub mod ForCallers
