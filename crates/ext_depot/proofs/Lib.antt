pub mod DepotTextLemmas
