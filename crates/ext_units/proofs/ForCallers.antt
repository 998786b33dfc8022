-- The lemmas on this crate's definitions that other crates cite.

-- the place of an image of a name leads to a directory, and there is one
pub use Rattle.ext_units.proofs.ImageLemmas.{image_leads, one_place}
-- a shelf that serves each file of a base serves each file of an image
pub use Rattle.ext_units.proofs.ImageLemmas.{image_served}
-- each unit of a list is one of the tree
pub use Rattle.ext_units.proofs.LawsLemmas.{each_unit}
