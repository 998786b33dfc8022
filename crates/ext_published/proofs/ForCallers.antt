-- The lemmas on this crate's definitions that other crates cite.

-- the names of manifests are names
pub use Rattle.ext_published.proofs.WordLemmas.{manifest_is_name, coming_manifest_is_name}
-- words ask one thing
pub use Rattle.ext_published.proofs.WordLemmas.{one_asked}
-- a name is one that a manifest may list
pub use Rattle.ext_published.proofs.ListingLemmas.{name_is_listed}
-- a manifest with one line more: its lines, what it lists, and how many bytes it has
pub use Rattle.ext_published.proofs.ListingLemmas.{lines_stay, listing_adds, listing_length}
-- a fact of each element of a list: of one more, of all, and of one of all
pub use Rattle.ext_published.proofs.PlacesLemmas.{each_more, each_whole, each_at}
-- each file of a published directory stands, with its listed stamp
pub use Rattle.ext_published.proofs.PublishedLemmas.{files_have_listed_stamps}
