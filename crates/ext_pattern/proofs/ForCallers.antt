-- The lemmas on this crate's definitions that other crates cite.

-- a pattern matches a name in one way at most, and what it has as the version is one
pub use Rattle.ext_pattern.proofs.OnceLemmas.{matches_once, version_matched}
-- so does the first of some patterns that matches it
pub use Rattle.ext_pattern.proofs.FirstLemmas.{first_once, first_version}
