pub mod DiskCallsLemmas
