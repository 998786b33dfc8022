pub mod SectionsLemmas
pub mod TakingLemmas
pub mod ReadingLemmas
pub mod AscendLemmas
pub mod RefusedLemmas
