-- The lemmas on this crate's definitions that other crates cite.

-- the names of a path at which a directory stands lead to it: no link is on the way
pub use Rattle.ext_find.proofs.StandsLemmas.{own_directory}
-- those of one at which a file stands do too
pub use Rattle.ext_find.proofs.StandsLemmas.{own_file}
