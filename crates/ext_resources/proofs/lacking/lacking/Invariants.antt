use Rattle.std.proofs.Common.{◌≡◌}
use Rattle.ext_resources.specs.Wanted.{lacking_places}
use Rattle.ext_resources.proofs.lacking.lacking.Given as goal

-- those of the transfers so far
abbrev pub invariant-loop-place : goal.invariant-loop-place
invariant-loop-place l = l.places.items ≡ lacking_places l.items l.version l.place
