-- Specifiers replaced, one after another.
use Rattle.std.proofs.Common.{◌≡◌, ℕ, Bool, false, cond, eqb, List, [], ◌∷◌, ◌++◌, Option, Some, None, codes, refl, sym, ap, ◌∙◌, inl, inr, append_assoc}
use Rattle.std.specs.List.{AllByRecursion}
use Rattle.std.proofs.lemmas.Bool.{cases_Bool, eqb-true}
use Rattle.ext_lines.specs.Split.{IsSplit, Lacks}
use Rattle.ext_lines.proofs.ForCallers.{none_each}
use Rattle.ext_transfer.specs.Laws.{DoubledStandsForText, PlainStaysPlain, doubled}
use Rattle.ext_transfer.specs.Meaning.{first_meaning}
use Rattle.ext_transfer.specs.Specifiers.{expanded, with_specified, with_text}

-- nothing before a text
pub with_nothing : (o : Option (List ℕ)) → o ≡ with_text [] o
with_nothing None = refl
with_nothing (Some t) = refl

-- two texts before one
with_both : (xs ys : List ℕ) (o : Option (List ℕ)) → with_text xs (with_text ys o) ≡ with_text (xs ++ ys) o
with_both xs ys None = refl
with_both xs ys (Some t) = ap Some (sym (append_assoc xs ys t))

abbrev IsPlain37 : List ℕ → Type 0
IsPlain37 bytes = AllByRecursion (λ b. eqb b 37 ≡ false) bytes

-- a text without `%`
plain : (m : ℕ → Option (List ℕ)) (bytes : List ℕ) → IsPlain37 bytes → expanded m bytes ≡ Some bytes
plain m [] all = refl
plain m (b ∷ []) all = ap (λ (x : Bool). cond x None (Some (b ∷ []))) all.0
plain m (b ∷ c ∷ cs) all =
    ap (λ (x : Bool). cond x (with_specified (m c) (expanded m cs)) (with_text (b ∷ []) (expanded m (c ∷ cs)))) all.0
    ∙ ap (with_text (b ∷ [])) (plain m (c ∷ cs) all.1)

-- a text without `%`, and then one
before_percent : (m : ℕ → Option (List ℕ)) (literal after : List ℕ) → IsPlain37 literal → expanded m (literal ++ 37 ∷ after) ≡ with_text literal (expanded m (37 ∷ after))
before_percent m [] after all = with_nothing (expanded m (37 ∷ after))
before_percent m (b ∷ []) after all =
    ap (λ (x : Bool). cond x (with_specified (m 37) (expanded m after)) (with_text (b ∷ []) (expanded m (37 ∷ after)))) all.0
before_percent m (b ∷ c ∷ cs) after all =
    ap (λ (x : Bool). cond x (with_specified (m c) (expanded m (cs ++ 37 ∷ after))) (with_text (b ∷ []) (expanded m (c ∷ cs ++ 37 ∷ after)))) all.0
    ∙ ap (with_text (b ∷ [])) (before_percent m (c ∷ cs) after all.1)
    ∙ with_both (b ∷ []) (c ∷ cs) (expanded m (37 ∷ after))

-- a `%` before a letter that means nothing, or before none
without_meaning : (m : ℕ → Option (List ℕ)) (after : List ℕ) → first_meaning m after ≡ None → expanded m (37 ∷ after) ≡ None
without_meaning m [] none = refl
without_meaning m (c ∷ cs) none = ap (λ (o : Option (List ℕ)). with_specified o (expanded m cs)) none

at_percent : (m : ℕ → Option (List ℕ)) (rest literal after : List ℕ) → IsSplit 37 rest literal after → expanded m rest ≡ with_text literal (expanded m (37 ∷ after))
at_percent m rest literal after split =
    ap (expanded m) split.whole ∙ before_percent m literal after (none_each (λ b. eqb b 37) literal split.prefix_lacks)

-- no `%` is left
pub ends : (m : ℕ → Option (List ℕ)) (text made rest : List ℕ) → expanded m text ≡ with_text made (expanded m rest) → Lacks 37 rest → expanded m text ≡ Some (made ++ rest)
ends m text made rest so_far lacks = so_far ∙ ap (with_text made) (plain m rest (none_each (λ b. eqb b 37) rest lacks))

-- the next one means nothing
pub stops : (m : ℕ → Option (List ℕ)) (text made rest literal after : List ℕ) → expanded m text ≡ with_text made (expanded m rest) → IsSplit 37 rest literal after → first_meaning m after ≡ None → expanded m text ≡ None
stops m text made rest literal after so_far split none =
    so_far ∙ ap (with_text made) (at_percent m rest literal after split ∙ ap (with_text literal) (without_meaning m after none))

-- the next one stands for a text
pub goes_on : (m : ℕ → Option (List ℕ)) (text made rest literal after : List ℕ) (letter : ℕ) (later value : List ℕ) → expanded m text ≡ with_text made (expanded m rest) → IsSplit 37 rest literal after → after ≡ letter ∷ later → m letter ≡ Some value → expanded m text ≡ with_text ((made ++ literal) ++ value) (expanded m later)
goes_on m text made rest literal after letter later value so_far split begins means =
    so_far
    ∙ ap (with_text made) (at_percent m rest literal after split
    ∙ ap (λ (a : List ℕ). with_text literal (expanded m (37 ∷ a))) begins
    ∙ ap (λ (o : Option (List ℕ)). with_text literal (with_specified o (expanded m later))) means)
    ∙ with_both made literal (with_text value (expanded m later))
    ∙ with_both (made ++ literal) value (expanded m later)

-- a text without `%` stands for itself
pub plain_stays : PlainStaysPlain
plain_stays m text lacks = plain m text (none_each (λ b. eqb b 37) text lacks)

one_byte : (m : ℕ → Option (List ℕ)) (b : ℕ) (rest : List ℕ) → eqb b 37 ≡ false → expanded m (b ∷ rest) ≡ with_text (b ∷ []) (expanded m rest)
one_byte m b [] other = ap (λ (x : Bool). cond x None (Some (b ∷ []))) other
one_byte m b (c ∷ cs) other =
    ap (λ (x : Bool). cond x (with_specified (m c) (expanded m cs)) (with_text (b ∷ []) (expanded m (c ∷ cs)))) other

-- and a text with each `%` written twice for the text
pub doubled_stays : DoubledStandsForText
doubled_stays m [] percent = refl
doubled_stays m (b ∷ bs) percent =
    elim (cases_Bool (eqb b 37)) [
      | inl same ↦
          ap (expanded m) (ap (λ (x : Bool). cond x (37 ∷ 37 ∷ doubled bs) (b ∷ doubled bs)) same)
          ∙ ap (λ (o : Option (List ℕ)). with_specified o (expanded m (doubled bs))) percent
          ∙ ap (with_text (codes "%")) (doubled_stays m bs percent)
          ∙ ap (λ (x : ℕ). Some (x ∷ bs)) (sym (eqb-true b 37 same))
      | inr other ↦
          ap (expanded m) (ap (λ (x : Bool). cond x (37 ∷ 37 ∷ doubled bs) (b ∷ doubled bs)) other)
          ∙ one_byte m b (doubled bs) other
          ∙ ap (with_text (b ∷ [])) (doubled_stays m bs percent)
    ]
