-- Versions that are known: each of them is available or has an instance.
use Rattle.std.proofs.Common.{◌≡◌, ℕ, Bool, true, false, not, ◌||◌, List, ◌∷◌, ◌++◌, refl, sym, ◌∙◌, subst, arith}
use Rattle.std.specs.List.{Contains}
use Rattle.std.specs.Str.{bytes_eq}
use Rattle.std.proofs.lemmas.Bool.{false≢true}
use Rattle.std.proofs.lemmas.List.Elements.{Contains-append_right}
use Rattle.std.proofs.lemmas.List.Folds.{list_any-append}
use Rattle.ext_versions.proofs.ForCallers.{has_contained}
use Rattle.ext_intents.specs.Updates.{AreKnown, versions_of_items}
use Rattle.ext_intents.specs.VersionItems.{IsKnown}
use Rattle.ext_update.specs.declared.updates.Updates.{Updates}

-- a version that stands among those that are known
pub known_one : (updates : Updates) (versions before after : List (List ℕ)) (v : List ℕ) → AreKnown updates versions
    → before ++ v ∷ after ≡ versions → IsKnown updates v
known_one updates versions before after v known parts =
    sym (list_any-append (bytes_eq v) updates.available (versions_of_items updates.installed.items))
    ∙ sym (known.same v)
    ∙ has_contained versions v
    (subst (λ (vs : List (List ℕ)). Contains vs v) parts (Contains-append_right before (v ∷ after) v (0, omega arith, refl)))

-- one without an instance is available
pub available_so : (available present : Bool) → available || present ≡ true → (not present || available) ≡ available
available_so true true known = refl
available_so true false known = refl
available_so false true known = refl
available_so false false known = absurd (false≢true known)
