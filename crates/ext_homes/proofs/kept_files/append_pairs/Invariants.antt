use Rattle.std.proofs.Common.{◌≡◌, ◌++◌, take}
use Rattle.ext_homes.specs.KeptFiles.{tree_kept}
use Rattle.ext_homes.specs.Sought.{is_sought}
use Rattle.ext_homes.proofs.kept_files.append_pairs.Given as goal

abbrev pub invariant-loop-pair : goal.invariant-loop-pair
invariant-loop-pair l = l.files.items ≡ l.fn.files.items ++ tree_kept (is_sought l.sought) (take l.pair-index l.pairs)
