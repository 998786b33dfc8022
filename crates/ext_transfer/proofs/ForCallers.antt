-- The lemmas on this crate's definitions that other crates cite.

-- what a transfer file says keeps the bounds of transfers
pub use Rattle.ext_transfer.proofs.BoundsLemmas.{transfer_bounds}
