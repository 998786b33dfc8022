use Rattle.std.proofs.Common.{◌≡◌, drop}
use Rattle.ext_cmd.specs.Portable.{mode_among}
use Rattle.ext_cmd.proofs.asked.mode_among.Given as goal

-- the options so far tell nothing of it
abbrev pub invariant-options : goal.invariant-options
invariant-options l = mode_among (drop l.option-index l.options) ≡ mode_among l.options
