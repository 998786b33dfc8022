-- The lemmas on this crate's definitions that other crates cite.

-- two trees have one list of changes, and one at and below each path: so an answer made of it is one
pub use Rattle.ext_changes.proofs.LawsLemmas.{one_list, one_list_below}
-- each path that differs between trees is within its limits
pub use Rattle.ext_changes.proofs.LawsLemmas.{paths_of_trees}
-- and lines of changes at such paths are those of one list
pub use Rattle.ext_changes.proofs.LinesLemmas.{one_list_of_text}
