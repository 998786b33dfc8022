use Rattle.std.proofs.Common.{◌≡◌, length}
use Rattle.std.specs.Prelude.{None}
use Rattle.std.specs.List.{last_or}
use Rattle.ext_ini.specs.Sections.{set_in}
use Rattle.ext_ini.proofs.sections.last_in.Given as goal

-- what is left has the same last one
abbrev pub invariant-assignments : goal.invariant-assignments
invariant-assignments l = last_or None (set_in l.rest l.key) ≡ last_or None (set_in l.assignments l.key)

abbrev pub decreases-assignments : goal.decreases-assignments
decreases-assignments l = length l.rest
