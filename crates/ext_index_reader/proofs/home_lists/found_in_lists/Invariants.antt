use Rattle.std.proofs.Common.{◌≡◌, drop}
use Rattle.std.specs.FinMap.{find}
use Rattle.ext_index_reader.specs.Homes.{home_cmp}
use Rattle.ext_index_reader.specs.HomeLists.{all_of}
use Rattle.ext_index_reader.proofs.home_lists.found_in_lists.Given as goal

abbrev pub invariant-each : goal.invariant-each
invariant-each l = find home_cmp l.home (all_of l.lists) ≡ find home_cmp l.home (all_of (drop l.list-index l.lists))
