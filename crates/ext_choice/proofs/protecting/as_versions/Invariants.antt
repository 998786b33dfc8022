use Rattle.std.proofs.Common.{◌≡◌, take}
use Rattle.ext_choice.proofs.protecting.as_versions.Given as goal

-- the texts so far
abbrev pub invariant-texts : goal.invariant-texts
invariant-texts l = l.versions.items ≡ take l.text-index l.texts
