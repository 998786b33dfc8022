-- The lemmas on this crate's definitions that other crates cite.

-- which paths are among two lists, one after the other
pub use Rattle.ext_updated.proofs.ClashLemmas.{among_cases, among_left, among_right}
-- relation goes both ways
pub use Rattle.ext_updated.proofs.ClashLemmas.{related_back}
-- two prefixes of one path are related
pub use Rattle.ext_updated.proofs.PathsLemmas.{prefixes_related}
-- a test that some path passes is passed by one that is among them, and the other way round
pub use Rattle.ext_updated.proofs.PathsLemmas.{among_any, any_among}
-- what holds of all paths holds of one that is among them
pub use Rattle.ext_updated.proofs.ClashLemmas.{all_among}
-- the path of a piece is among theirs, and each of these is that of a piece; the piece at or below whose path another path is
pub use Rattle.ext_updated.proofs.PiecesLemmas.{among_of, covering, piece_of}
-- there is one clash of items
pub use Rattle.ext_updated.proofs.LawsLemmas.{one_clash}
-- there is one manifest of a path
pub use Rattle.ext_updated.proofs.ManifestLemmas.{one_manifest}
-- there is one tree after an update; pieces without a clash may be put
pub use Rattle.ext_updated.proofs.LawsLemmas.{one_updated, pieces_may}
-- what stays and what goes, how pieces stand, and what is outside of both
pub use Rattle.ext_updated.proofs.LawsLemmas.{others_stay, pieces_stand, removed_goes, staying_stays}
-- what manifests say
pub use Rattle.ext_updated.proofs.KeepingLemmas.{files_decide, manifests_of_pieces}
-- manifests are kept over changes that leave their paths alone
pub use Rattle.ext_updated.proofs.KeepingLemmas.{added_kept, kept_untouched}
