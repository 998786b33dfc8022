-- The lemmas on this crate's definitions that other crates cite.

-- versions that test as equal are the same, and a version tests as equal to itself
pub use Rattle.ext_versions.proofs.VersionsLemmas.{same_version, version_itself}
-- what a list has is at some place of it, and the other way round
pub use Rattle.ext_versions.proofs.VersionsLemmas.{contained, has_contained}
-- what is among versions that all come after one comes after it too; so a version is not among those that come after it
pub use Rattle.ext_versions.proofs.VersionsLemmas.{among_above, not_above_itself}
-- the first versions of ascending ones ascend
pub use Rattle.ext_versions.proofs.VersionsLemmas.{first_ascend}
-- two ascending lists with the same versions are equal
pub use Rattle.ext_versions.proofs.VersionsLemmas.{one_list}
