use Rattle.std.proofs.Common.{◌≡◌, length}
use Rattle.std.specs.Prelude.{None}
use Rattle.std.specs.List.{last_or}
use Rattle.ext_ini.specs.Sections.{settings_of}
use Rattle.ext_ini.proofs.ini.last_of.Given as goal

-- what is left has the same last one
abbrev pub invariant-sections : goal.invariant-sections
invariant-sections l = last_or None (settings_of l.rest l.name l.key) ≡ last_or None (settings_of l.sections l.name l.key)

abbrev pub decreases-sections : goal.decreases-sections
decreases-sections l = length l.rest
