use Rattle.std.proofs.Common.{length}
use Rattle.ext_walk.specs.Row.{IsRow}
use Rattle.ext_configs.specs.Listed.{ListsComponents, in_folders_passed}
use Rattle.ext_configs.proofs.component_names.add_names.Given as goal

abbrev pub invariant-names : goal.invariant-names
invariant-names g l = IsRow l.base l.directory l.rest × ListsComponents l.base (in_folders_passed l.index l.directory l.rest) l.names.items

abbrev pub decreases-names : goal.decreases-names
decreases-names g l = length l.rest
