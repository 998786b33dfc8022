-- The lemmas on this crate's definitions that other crates cite.

-- the order of instances is total
pub use Rattle.ext_installed.proofs.OrderLemmas.{instances_total}
-- two lists of what is found are equal
pub use Rattle.ext_installed.proofs.LawsLemmas.{one_found}
-- an item's transfer is below their number, and what is installed is a version
pub use Rattle.ext_installed.proofs.LawsLemmas.{item_within, installed_version}
-- what a list contains: nothing where it is empty, else its first element and what the others contain
pub use Rattle.ext_installed.proofs.OrderLemmas.{none_contained, contains_cases}
-- two lists in strict order that contain the same are equal
pub use Rattle.ext_installed.proofs.OrderLemmas.{same_contained}
