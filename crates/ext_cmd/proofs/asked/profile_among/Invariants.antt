use Rattle.std.proofs.Common.{◌≡◌, drop}
use Rattle.ext_cmd.specs.Portable.{profile_among}
use Rattle.ext_cmd.proofs.asked.profile_among.Given as goal

-- the options so far tell nothing of it
abbrev pub invariant-options : goal.invariant-options
invariant-options l = profile_among (drop l.option-index l.options) ≡ profile_among l.options
