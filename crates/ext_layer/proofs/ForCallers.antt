-- The lemmas that crates above cite.

-- The layered tree of trees that have texts has one too, where it has at most 262,144 entries: so a caller that prints
-- the visible entries prints a tree text.
pub use Rattle.ext_layer.proofs.LawsLemmas.{layered_has_text}
-- Layers of which an equal one stands above can be left out, and layers that say the same are layered the same, over
-- others too: so a caller gives fewer layers.
pub use Rattle.ext_layer.proofs.JoiningLemmas.{layered_same, lower_among, same_over}
