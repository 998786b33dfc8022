use Rattle.std.proofs.Common.{◌≡◌, length}
use denote.Text.{Utf8}
use denote.Shadow.{shadow}
use Rattle.std.specs.String.{string_bytes}
use Rattle.ext_release.specs.Value.{split_double, with_prefix}
use Rattle.ext_release.proofs.value.read_double.Given as goal

-- what is left stands after what was read
abbrev pub invariant-pieces : goal.invariant-pieces
invariant-pieces l = shadow (Utf8 l.rest) × (split_double l.text ≡ with_prefix (string_bytes l.value) (split_double l.rest))

abbrev pub decreases-pieces : goal.decreases-pieces
decreases-pieces l = length l.rest
