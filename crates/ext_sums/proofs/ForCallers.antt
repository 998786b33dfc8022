-- The lemmas on this crate's definitions that other crates cite.

-- two manifests of one text are the same, and the text of a manifest has no fault
pub use Rattle.ext_sums.proofs.LawsLemmas.{one_manifest, no_fault_in_manifest}
