use Rattle.std.proofs.Common.{◌≡◌, ℕ, ◌<◌, false, take}
use Rattle.ext_text.specs.SortedPaths.{is_among}
use Rattle.ext_text.proofs.sorted_paths.covers.Given as goal

-- none of the shorter prefixes is among the paths
abbrev pub invariant-prefixes : goal.invariant-prefixes
invariant-prefixes l = (k : ℕ) → k < l.count → is_among l.paths (take k l.names) ≡ false
