use Rattle.std.proofs.lemmas.List.Filters.{dedup_is}
use Rattle.ext_homes.proofs.KeptFilesLemmas.{once_same, once_sorted}
use Rattle.ext_homes.proofs.kept_files.sort_once.Goals as goal

pub returns-clause-same : goal.returns-clause-same
returns-clause-same c = rw (dedup_is _ _ _ c.dedup.ensures.filtered) (once_same _ _ c.sort_unstable.ensures.permutation)

pub returns-clause-sorted : goal.returns-clause-sorted
returns-clause-sorted c = rw (dedup_is _ _ _ c.dedup.ensures.filtered) (once_sorted _ c.sort_unstable.ensures.sorted)
