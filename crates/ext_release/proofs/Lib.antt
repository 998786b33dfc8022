pub mod ValueLemmas
pub mod QuotingLemmas
pub mod ReadingLemmas
pub mod LawsLemmas
