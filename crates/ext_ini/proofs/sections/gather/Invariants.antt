use Rattle.std.proofs.Common.{◌≡◌, length}
use Rattle.ext_ini.specs.Sections.{gathered, set_in}
use Rattle.ext_ini.proofs.sections.gather.Given as goal

-- what is left makes of those so far what all make of the first
abbrev pub invariant-assignments : goal.invariant-assignments
invariant-assignments l = gathered l.settings (set_in l.rest l.key) ≡ gathered l.fn.settings (set_in l.assignments l.key)

abbrev pub decreases-assignments : goal.decreases-assignments
decreases-assignments l = length l.rest
