-- The lemmas on this crate's definitions that other crates cite.

-- what a change of a host by an update, or by making room, writes and removes
pub use Rattle.ext_update.proofs.LawsLemmas.{update_writes, vacuum_removes}
-- what is not touched stands as before, and nothing changes but what is seen and the manifests
pub use Rattle.ext_update.proofs.UntouchedLemmas.{untouched_stand, other_parts_stay}
-- each resource stands as it was put and has its manifest, and the manifests of what is not touched are kept
pub use Rattle.ext_update.proofs.LawsLemmas.{resources_stand, manifests_are_kept}
-- protected instances stand as before
pub use Rattle.ext_update.proofs.LawsLemmas.{updates_keep_protected, vacuums_keep_protected}
