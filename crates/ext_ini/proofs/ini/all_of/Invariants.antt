use Rattle.std.proofs.Common.{◌≡◌, [], length}
use Rattle.ext_ini.specs.Sections.{gathered, settings_of}
use Rattle.ext_ini.proofs.ini.all_of.Given as goal

-- what is left makes of those so far what all make
abbrev pub invariant-sections : goal.invariant-sections
invariant-sections l = gathered l.all (settings_of l.rest l.name l.key) ≡ gathered [] (settings_of l.sections l.name l.key)

abbrev pub decreases-sections : goal.decreases-sections
decreases-sections l = length l.rest
