use Rattle.std.proofs.Common.{length}
use Rattle.std.specs.Option.{option_copied}
use Rattle.ext_walk.specs.Row.{IsRow}
use Rattle.ext_configs.specs.Kept.{KeepsConfigs, in_names_passed}
use Rattle.ext_configs.proofs.files.keep_names.Given as goal

abbrev pub invariant-names : goal.invariant-names
invariant-names g l = IsRow l.search.base.now l.directory l.rest × KeepsConfigs g.C.Measured.size l.search.base.now (option_copied l.search.component) l.search.kind (in_names_passed l.index l.directory l.rest) l.kept

abbrev pub decreases-names : goal.decreases-names
decreases-names g l = length l.rest
