-- Values, read piece by piece.
use Rattle.std.proofs.Common.{◌≡◌, ◌≢◌, ℕ, ◌<◌, ◌≤◌, Bool, true, false, eqb, List, [], ◌∷◌, ◌++◌, length, drop, get_or, refl, sym, ap, ◌∙◌, arith, append_assoc}
use Rattle.std.specs.List.{AllByRecursion}
use Rattle.std.specs.Prelude.{Option, Some, None}
use Rattle.std.proofs.lemmas.Bool.Decides.{nat_tests}
use Rattle.std.proofs.lemmas.Bool.{eqb-true}
use Rattle.std.proofs.lemmas.List.{append-nil}
use Rattle.ext_lines.specs.Split.{IsSplit, IsSplitBy, Lacks, NonePass}
use Rattle.ext_lines.proofs.ForCallers.{none_each}
use Rattle.ext_release.specs.Value.{bare, closed, is_mark, is_special, split_double, with_prefix}

-- no byte passes the test, by recursion
abbrev Each : (ℕ → Bool) → List ℕ → Type 0
Each test text = AllByRecursion (λ b. test b ≡ false) text

-- no prefix changes nothing
pub no_prefix : (o : Option (List ℕ × List ℕ)) → with_prefix [] o ≡ o
no_prefix None = refl
no_prefix (Some c) = refl

pub joined : (xs ys : List ℕ) (o : Option (List ℕ × List ℕ)) → with_prefix xs (with_prefix ys o) ≡ with_prefix (xs ++ ys) o
joined xs ys None = refl
joined xs ys (Some c) = ap (λ (prefix : List ℕ). Some (prefix, c.1)) (sym (append_assoc xs ys c.0))

no_quote : (b : ℕ) → is_mark b ≡ false → eqb b 34 ≡ false
no_quote b h = grind (arith, nat_tests)

no_backslash : (b : ℕ) → is_mark b ≡ false → eqb b 92 ≡ false
no_backslash b h = grind (arith, nat_tests)

plain_mark : (b : ℕ) → is_special b ≡ false → is_mark b ≡ false
plain_mark b h = grind (arith, nat_tests)

is_backslash : (b : ℕ) → is_mark b ≡ true → b ≢ 34 → b ≡ 92
is_backslash b h ne = grind (arith, nat_tests)

pub special_low : (b : ℕ) → is_special b ≡ true → b < 128
special_low b h = grind (arith, nat_tests)

-- a byte that is no mark stands for itself
plain : (b : ℕ) (bs : List ℕ) → is_mark b ≡ false → split_double (b ∷ bs) ≡ with_prefix (b ∷ []) (split_double bs)
plain b [] h = rw (no_quote b h) refl
plain b (c ∷ cs) h = rw (no_quote b h, no_backslash b h) refl

each_no_mark : (text : List ℕ) → Each is_mark text → split_double text ≡ None
each_no_mark [] lacks = refl
each_no_mark (b ∷ bs) lacks = plain b bs lacks.0 ∙ ap (with_prefix (b ∷ [])) (each_no_mark bs lacks.1)

pub no_mark : (text : List ℕ) → NonePass is_mark text → split_double text ≡ None
no_mark text none = each_no_mark text (none_each is_mark text none)

piece_first : (prefix rest : List ℕ) → Each is_mark prefix → split_double (prefix ++ rest) ≡ with_prefix prefix (split_double rest)
piece_first [] rest lacks = sym (no_prefix (split_double rest))
piece_first (b ∷ prefix) rest lacks =
    plain b (prefix ++ rest) lacks.0 ∙ ap (with_prefix (b ∷ [])) (piece_first prefix rest lacks.1) ∙ joined (b ∷ []) prefix (split_double rest)

quote_ends : (after : List ℕ) → split_double (34 ∷ after) ≡ Some ([], after)
quote_ends [] = refl
quote_ends (b ∷ bs) = refl

-- a backslash before a special byte
pub special_step : (old new text after : List ℕ) (b : ℕ) → 1 ≤ length text → b ≡ get_or text 0 0 → is_special b ≡ true → after ≡ drop 1 text → new ≡ old ++ b ∷ [] → with_prefix new (split_double after) ≡ with_prefix old (split_double (92 ∷ text))
special_step old new [] after b some is h e n = absurd (omega arith)
special_step old new (c ∷ cs) after b some is h e n =
    rw (n, e, ← is, h) (sym (joined old (b ∷ []) (split_double cs)))

-- a backslash before any other byte
pub other_step : (old new text : List ℕ) (b : ℕ) → 1 ≤ length text → b ≡ get_or text 0 0 → is_special b ≡ false → new ≡ old ++ 92 ∷ [] → with_prefix new (split_double text) ≡ with_prefix old (split_double (92 ∷ text))
other_step old new [] b some is h n = absurd (omega arith)
other_step old new (c ∷ cs) b some is h n =
    let k : is_special c ≡ false = ap is_special (sym is) ∙ h in
    rw (n, k) (ap (with_prefix (old ++ 92 ∷ [])) (plain c cs (plain_mark c k)) ∙ joined (old ++ 92 ∷ []) (c ∷ []) (split_double cs)
    ∙ ap (λ (prefix : List ℕ). with_prefix prefix (split_double cs)) (append_assoc old (92 ∷ []) (c ∷ [])) ∙ sym (joined old (92 ∷ c ∷ []) (split_double cs)))

-- a step up to the next mark
to_mark : (text rest old new piece after : List ℕ) (m : ℕ) → split_double text ≡ with_prefix old (split_double rest) → IsSplitBy is_mark rest piece m after → new ≡ old ++ piece → split_double text ≡ with_prefix new (split_double (m ∷ after))
to_mark text rest old new piece after m so is n =
    so ∙ ap (λ (bs : List ℕ). with_prefix old (split_double bs)) is.whole ∙ ap (with_prefix old) (piece_first piece (m ∷ after) (none_each is_mark piece is.none_before))
    ∙ joined old piece (split_double (m ∷ after)) ∙ ap (λ (prefix : List ℕ). with_prefix prefix (split_double (m ∷ after))) (sym n)

pub at_quote : (text rest old new piece after : List ℕ) (m : ℕ) → split_double text ≡ with_prefix old (split_double rest) → IsSplitBy is_mark rest piece m after → new ≡ old ++ piece → m ≡ 34 → split_double text ≡ Some (new, after)
at_quote text rest old new piece after m so is n e =
    to_mark text rest old new piece after m so is n ∙ ap (λ (x : ℕ). with_prefix new (split_double (x ∷ after))) e ∙ ap (with_prefix new) (quote_ends after)
    ∙ ap (λ (prefix : List ℕ). Some (prefix, after)) (append-nil new)

pub at_backslash : (text rest old new piece after : List ℕ) (m : ℕ) → split_double text ≡ with_prefix old (split_double rest) → IsSplitBy is_mark rest piece m after → new ≡ old ++ piece → m ≢ 34 → split_double text ≡ with_prefix new (split_double (92 ∷ after))
at_backslash text rest old new piece after m so is n e =
    to_mark text rest old new piece after m so is n ∙ ap (λ (x : ℕ). with_prefix new (split_double (x ∷ after))) (is_backslash m is.passes e)

pub begins : (text value : List ℕ) → value ≡ [] → split_double text ≡ with_prefix value (split_double text)
begins text value none = sym (no_prefix (split_double text)) ∙ ap (λ (prefix : List ℕ). with_prefix prefix (split_double text)) (sym none)

pub unclosed : (text value after : List ℕ) → split_double text ≡ with_prefix value (split_double (92 ∷ after)) → eqb (length after) 0 ≡ true → None ≡ closed (split_double text)
unclosed text value [] so none = sym (ap closed so)
unclosed text value (b ∷ bs) so none = absurd (omega (arith, eqb-true _ _ none))

bare_plain : (b : ℕ) (bs : List ℕ) → eqb b 92 ≡ false → bare (b ∷ bs) ≡ b ∷ bare bs
bare_plain b [] h = rw h refl
bare_plain b (c ∷ cs) h = rw h refl

bare_same : (text : List ℕ) → Each (λ b. eqb b 92) text → bare text ≡ text
bare_same [] lacks = refl
bare_same (b ∷ bs) lacks = bare_plain b bs lacks.0 ∙ ap (λ ys. b ∷ ys) (bare_same bs lacks.1)

bare_piece : (prefix rest : List ℕ) → Each (λ b. eqb b 92) prefix → bare (prefix ++ rest) ≡ prefix ++ bare rest
bare_piece [] rest lacks = refl
bare_piece (b ∷ prefix) rest lacks = bare_plain b (prefix ++ rest) lacks.0 ∙ ap (λ ys. b ∷ ys) (bare_piece prefix rest lacks.1)

-- the last piece
pub bare_end : (text rest old new : List ℕ) → bare text ≡ old ++ bare rest → Lacks 92 rest → new ≡ old ++ rest → new ≡ bare text
bare_end text rest old new so lacks n = n ∙ ap (λ (ys : List ℕ). old ++ ys) (sym (bare_same rest (none_each (λ b. eqb b 92) rest lacks))) ∙ sym so

-- a step up to the next backslash
pub bare_backslash : (text rest old new piece after : List ℕ) → bare text ≡ old ++ bare rest → IsSplit 92 rest piece after → new ≡ old ++ piece → bare text ≡ new ++ bare (92 ∷ after)
bare_backslash text rest old new piece after so is n =
    so ∙ ap (λ (bs : List ℕ). old ++ bare bs) is.whole ∙ ap (λ (ys : List ℕ). old ++ ys) (bare_piece piece (92 ∷ after) (none_each (λ b. eqb b 92) piece is.prefix_lacks))
    ∙ sym (append_assoc old piece (bare (92 ∷ after)))
    ∙ ap (λ (prefix : List ℕ). prefix ++ bare (92 ∷ after)) (sym n)
