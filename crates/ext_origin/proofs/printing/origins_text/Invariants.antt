use Rattle.std.proofs.Common.{◌≡◌, take}
use Rattle.ext_origin.specs.Lines.{origins_text}
use Rattle.ext_origin.proofs.printing.origins_text.Given as goal

abbrev pub invariant-origins : goal.invariant-origins
invariant-origins l = l.text.items ≡ origins_text (take l.origin-index l.origins)
