-- The lemmas on this crate's definitions that other crates cite.

-- the pieces of an attachment may be put where nothing but directories stands above; where all names fit they are put at its tops
pub use Rattle.ext_added.proofs.TopsLemmas.{may_put, tops_fit}
-- the root is no top
pub use Rattle.ext_added.proofs.TopsLemmas.{no_top_root}
-- each piece is made of a made directory, a link, a file that was made or copied, or of the image
pub use Rattle.ext_added.proofs.EntriesLemmas.{pieces_added}
