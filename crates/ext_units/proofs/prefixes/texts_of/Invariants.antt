use Rattle.std.proofs.Common.{◌≡◌, take}
use Rattle.ext_units.proofs.prefixes.texts_of.Given as goal

abbrev pub invariant-names : goal.invariant-names
invariant-names l = l.texts.items ≡ take l.name-index l.names
