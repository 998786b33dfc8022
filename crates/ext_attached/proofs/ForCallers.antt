-- The lemmas on this crate's definitions that other crates cite.

-- what a search from the start finds in paths in path order, and the same of other lists of the same paths
pub use Rattle.ext_attached.proofs.LeastLemmas.{finds_least, least_moved}
-- one least path, or none
pub use Rattle.ext_attached.proofs.LeastLemmas.{one_least}
-- a host with another tree, other attachments and without touched manifests: it is valid, and its files are those of the host
pub use Rattle.ext_attached.proofs.ChangedLemmas.{SameOutside, IsSizedWith, changed_is_valid, changed_is_drawn}
-- a valid host without some of its attachments is valid, and its files are those of the host
pub use Rattle.ext_attached.proofs.GoingLemmas.{detached_is_planned}
-- what is related to none of some paths is at or below none
pub use Rattle.ext_attached.proofs.GoingLemmas.{unmet_uncovered}
-- an entry of a tree without some paths is one of the tree
pub use Rattle.ext_attached.proofs.GoingLemmas.{cut_found}
-- those that stay are attachments in order
pub use Rattle.ext_attached.proofs.GoingLemmas.{staying_attached}
-- one thing comes of detaching an image
pub use Rattle.ext_attached.proofs.OneDetachLemmas.{one_detach}
