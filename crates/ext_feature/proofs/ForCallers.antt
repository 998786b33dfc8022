-- The lemmas on this crate's definitions that other crates cite.

-- the transfers that are on keep the bounds of transfers
pub use Rattle.ext_feature.proofs.StepLemmas.{active_bounds}
