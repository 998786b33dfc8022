-- The lemmas on this crate's definitions that other crates cite.

-- fields tell their attributes, and a number with its owner
pub use Rattle.ext_attributes.proofs.MarksLemmas.{attributes_once, file_attributes_once, owned_once}
-- and lack each byte before `0`
pub use Rattle.ext_attributes.proofs.MarksLemmas.{attributes_lack, file_attributes_lack, owned_lacks}
-- what is root's is in range, and so is what a file has without a capability
pub use Rattle.ext_attributes.proofs.RangeLemmas.{mode_in_range, plain_in_range, root_in_range}
