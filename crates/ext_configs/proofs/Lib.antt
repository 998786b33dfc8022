pub mod FolderLemmas
pub mod EntryLemmas
pub mod KeptLemmas
pub mod FileLemmas
pub mod ListedLemmas
pub mod LawsLemmas
pub mod CallerLemmas
pub mod ForCallers
