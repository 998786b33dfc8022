pub mod FilterLemmas
pub mod NameLemmas
pub mod DropInLemmas
pub mod ApartLemmas
pub mod TopsLemmas
pub mod EntriesLemmas
pub mod TextLemmas
pub mod ProfileLemmas
mod RowLemmas
pub mod ForCallers
