pub mod AppendLemmas
pub mod ForCallers
pub mod MarksLemmas
pub mod RangeLemmas
