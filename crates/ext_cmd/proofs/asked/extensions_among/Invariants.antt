use Rattle.std.proofs.Common.{◌≡◌, ◌++◌, drop}
use Rattle.ext_cmd.specs.Portable.{extensions_among}
use Rattle.ext_cmd.proofs.asked.extensions_among.Given as goal

-- the extensions so far and those of the rest are all
abbrev pub invariant-options : goal.invariant-options
invariant-options l = l.images ++ extensions_among (drop l.option-index l.options) ≡ extensions_among l.options
