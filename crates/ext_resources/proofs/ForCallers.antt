-- The lemmas on this crate's definitions that other crates cite.

-- where the depot tells its files, it tells one thing of the resources
pub use Rattle.ext_resources.proofs.LawsLemmas.{one_told}
-- offers that manifests tell are listed
pub use Rattle.ext_resources.proofs.LawsLemmas.{told_listed}
-- among the instances that are found there is one exactly where the tree has one
pub use Rattle.ext_resources.proofs.LawsLemmas.{has_what_the_tree_has}
-- a transfer has an instance of the version, or a resource is taken for it; resources stand in the order of their transfers
pub use Rattle.ext_resources.proofs.LawsLemmas.{instance_or_resource, places_ascend}
-- the name of a resource is read as its version
pub use Rattle.ext_resources.proofs.LawsLemmas.{name_read_back}
