pub mod Paths
pub mod Both
pub mod Outcomes
pub mod Sparing
mod PiecesLemmas
mod DiskEntriesLemmas
mod NamesLemmas
mod Growth
mod ListingLemmas
mod SyncingLemmas
mod HistoryLemmas
mod PastLemmas
mod PickedLemmas
mod StoppedLemmas
pub mod ForCallers
