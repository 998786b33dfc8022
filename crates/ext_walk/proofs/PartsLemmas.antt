-- The parts of a text taken from its end, and the names that a walk has left.
use Rattle.std.proofs.Common.{◌≡◌, ℕ, ◌<◌, true, false, cond, List, [], ◌∷◌, ◌++◌, length, map, reverse, refl, sym, ap, ◌∙◌, arith}
use Rattle.std.specs.Prelude.{nat_eq}
use Rattle.std.specs.Borrow.{Bor}
use Rattle.std.specs.List.{onto_first}
use Rattle.std.proofs.lemmas.List.{map-append, reverse-append}
use Rattle.std.proofs.lemmas.List.Splits.{length-slice_split}
use Rattle.ext_lines.specs.Split.{Lacks}
use Rattle.ext_lines.proofs.ForCallers.{one_part}
use Rattle.ext_text.specs.Path.{path_parts}
use Rattle.ext_walk.specs.Walk.{parts}
use Rattle.ext_walk.specs.Upcoming.{upcoming}

onto_append : (b : ℕ) (xs ys : List (List ℕ)) → 0 < length xs → onto_first b (xs ++ ys) ≡ onto_first b xs ++ ys
onto_append b [] ys some = absurd (omega arith)
onto_append b (x ∷ xs) ys some = refl

some_part : (text : List ℕ) → 0 < length (parts text)
some_part text = omega (arith, length-slice_split (λ b. nat_eq b 47) text)

-- the last part of a text stands after its last slash
pub last_part : (before name : List ℕ) → Lacks 47 name → parts (before ++ 47 ∷ name) ≡ parts before ++ name ∷ []
last_part [] name lacks = ap (λ ps. [] ∷ ps) (one_part 47 name lacks)
last_part (b ∷ before) name lacks =
    let rest = last_part before name lacks in
    elim (nat_eq b 47) as (λ t. cond t ([] ∷ parts (before ++ 47 ∷ name)) (onto_first b (parts (before ++ 47 ∷ name))) ≡ cond t ([] ∷ parts before) (onto_first b (parts before)) ++ name ∷ []) [
      | true ↦ ap (λ ps. [] ∷ ps) rest
      | false ↦ ap (onto_first b) rest ∙ onto_append b (parts before) (name ∷ []) (some_part before)
    ]

-- the next name is the last one
pub pushed : (names : List (Bor (List ℕ))) (x : Bor (List ℕ)) → upcoming (names ++ x ∷ []) ≡ x.now ∷ upcoming names
pushed names x = ap reverse (map-append (λ (r : Bor (List ℕ)). r.now) names (x ∷ [])) ∙ reverse-append (map (λ (r : Bor (List ℕ)). r.now) names) (x.now ∷ [])

pub popped : (before after : List (Bor (List ℕ))) (x : Bor (List ℕ)) → before ≡ after ++ x ∷ [] → upcoming before ≡ x.now ∷ upcoming after
popped before after x is = ap upcoming is ∙ pushed after x

pub none_left : (names : List (Bor (List ℕ))) → length names ≡ 0 → upcoming names ≡ []
none_left [] none = refl
none_left (x ∷ names) none = absurd (omega arith)

-- the parts of the text of some names are the names
pub parts_of_names : (text : List ℕ) (p : List (List ℕ)) → path_parts text ≡ p → (p ≡ [] → ⊥) → parts text ≡ p
parts_of_names [] p are some = absurd (some (sym are))
parts_of_names (b ∷ text) p are some = are
