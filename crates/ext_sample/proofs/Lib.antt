mod NamesLemmas
mod SampleLemmas
mod LookupLemmas
mod TreeLemmas
mod DepotLemmas
mod LawsLemmas
