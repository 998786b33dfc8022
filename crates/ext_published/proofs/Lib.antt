pub mod WordLemmas
pub mod ListingLemmas
pub mod PlacesLemmas
pub mod PublishedLemmas
pub mod ForCallers
