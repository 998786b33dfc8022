use Rattle.std.proofs.Common.{◌≡◌, drop}
use Rattle.ext_cmd.specs.Portable.{has_runtime}
use Rattle.ext_cmd.proofs.asked.has_runtime.Given as goal

-- the options so far tell nothing of it
abbrev pub invariant-options : goal.invariant-options
invariant-options l = has_runtime (drop l.option-index l.options) ≡ has_runtime l.options
