use Rattle.std.proofs.Common.{◌≡◌, ℕ, List, take}
use Rattle.ext_units.specs.TextSet.{is_one_of}
use Rattle.ext_units.proofs.SetLemmas.{texts_of}
use Rattle.ext_units.proofs.text_set.TextSet.of.Given as goal

abbrev pub invariant-texts : goal.invariant-texts
invariant-texts l = (text : List ℕ) → is_one_of (texts_of l.set.keys) text ≡ is_one_of (take l.text-index l.texts) text
