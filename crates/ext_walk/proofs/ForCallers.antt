-- The lemmas on this crate's definitions that other crates cite.

-- a walk has one end
pub use Rattle.ext_walk.proofs.WalkLemmas.{one_end}
-- a walk ends where it would end after a step; where a name is left and there is no step, it has no end
pub use Rattle.ext_walk.proofs.WalkLemmas.{same_self, same_step, stuck}
-- what stands at a name decides its step
pub use Rattle.ext_walk.proofs.WalkLemmas.{step_into}
-- a walk that is there is one walk, and is not none
pub use Rattle.ext_walk.proofs.WalkLemmas.{from_some, no_some}
-- a walk ends at a path within its limits
pub use Rattle.ext_walk.proofs.EndLemmas.{end_path}
-- a walk in the part below the root is one in the tree
pub use Rattle.ext_walk.proofs.EndLemmas.{resolves_whole}
-- two ends of one walk are one; a walk without end leads to no directory, nor does one that ends elsewhere
pub use Rattle.ext_walk.proofs.LeadsLemmas.{same_end, no_directory, other_directory}
-- names lead to what passes a test exactly where their end passes it, and to nothing without an end
pub use Rattle.ext_walk.proofs.LeadsLemmas.{leads_iff, leads_none}
-- a row of a directory: all that stands below it, or at and below those names that begin with some bytes
pub use Rattle.ext_walk.proofs.RowLemmas.{row_of_below, row_of_named}
-- whether a child of the directory begins so
pub use Rattle.ext_walk.proofs.RowLemmas.{named_child}
