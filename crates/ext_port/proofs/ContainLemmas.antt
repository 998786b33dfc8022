-- What lists contain, and what holds of each entry of a tree.
use Rattle.std.proofs.Common.{◌≡◌, ◌≢◌, ℕ, zero, suc, true, false, cond, List, [], ◌∷◌, Some, inl, inr, refl, sym, ap, ◌∙◌, subst, arith}
use Rattle.std.specs.Prelude.{◌⊎◌, Contains}
use Rattle.std.specs.Cmp.{tied_itself}
use Rattle.std.specs.FinMap.{is_sorted}
use Rattle.std.specs.FinMap.Entries.{below_all}
use Rattle.std.specs.List.{AllByRecursion}
use Rattle.std.specs.Ordering.{eq_by_cmp, is_lt}
use Rattle.std.specs.declared.cmp.Ordering.TheVariants.{Less}
use Rattle.std.proofs.lemmas.Bool.{and_parts, false_from_ne_true}
use Rattle.std.proofs.lemmas.List.Elements.{All-contains, All-from_recursion, Contains-append_cases, Contains-push_cases}
use Rattle.std.proofs.lemmas.Option.{none-some, same_Some}
use Rattle.ext_text.specs.Order.{paths_total}
use Rattle.ext_text.specs.Path.{path_cmp}
use Rattle.ext_text.proofs.ForCallers.{is_less, same_path, tied_path}
use Rattle.ext_tree.specs.Tree.{Entries, lookup}
use Rattle.ext_tree.specs.declared.entry.Entry.{Entry}
use Rattle.ext_host.specs.Held.{HeldFile}

pub none_contained : {X : Type 0} (x : X) → Contains [] x → ⊥
none_contained x at = omega (arith, at.1)

pub contains_cases : {X : Type 0} (x y : X) (xs : List X) → Contains (x ∷ xs) y → (x ≡ y) ⊎ Contains xs y
contains_cases x y xs at = elim (Contains-append_cases (x ∷ []) xs y at) [
  | inl first ↦ elim (Contains-push_cases [] x y first) [ inl none ↦ absurd (none_contained y none) | inr same ↦ inl same ]
  | inr later ↦ inr later
]

pub here : {X : Type 0} (x : X) (xs : List X) → Contains (x ∷ xs) x
here x xs = (zero, omega arith, refl)

pub later : {X : Type 0} (x y : X) (xs : List X) → Contains xs y → Contains (x ∷ xs) y
later x y xs among = (suc among.0, omega (arith, among.1), among.2)

pub all_contained : {X : Type 0} (P : X → Type 0) (xs : List X) (x : X) → AllByRecursion P xs → Contains xs x → P x
all_contained P xs x all at = All-contains P xs x (All-from_recursion P xs all) at

pub each_contained : {X : Type 0} (P : X → Type 0) (xs : List X) → ((x : X) → Contains xs x → P x) → AllByRecursion P xs
each_contained P [] holds = tt
each_contained P (x ∷ xs) holds = (holds x (here x xs), each_contained P xs (λ y at. holds y (later x y xs at)))

-- an entry that is found holds what all entries hold
pub found_holds : (P : Entry HeldFile → Type 0) (es : Entries HeldFile) (q : List (List ℕ)) (e : Entry HeldFile) → AllByRecursion (λ x. P x.1) es → lookup es q ≡ Some e → P e
found_holds P [] q e all found = absurd (none-some e found)
found_holds P (x ∷ es) q e all found =
    elim (eq_by_cmp path_cmp q x.0) as (λ b. cond b (Some x.1) (lookup es q) ≡ Some e → P e) [
      | true ↦ λ got. subst P (same_Some x.1 e got) all.0
      | false ↦ λ rest. found_holds P es q e all.1 rest
    ] found

not_less_itself : (p : List (List ℕ)) → path_cmp p p ≢ Less
not_less_itself p less = cc (less, tied_itself paths_total p)

all_above : (p : List (List ℕ)) (es : Entries HeldFile) → below_all path_cmp p es ≡ true → AllByRecursion (λ (x : List (List ℕ) × Entry HeldFile). path_cmp p x.0 ≡ Less) es
all_above p [] below = tt
all_above p (x ∷ es) below =
    let parts = and_parts (is_lt (path_cmp p x.0)) (below_all path_cmp p es) below in
    (is_less (path_cmp p x.0) parts.0, all_above p es parts.1)

skips : (x : List (List ℕ) × Entry HeldFile) (es : Entries HeldFile) (q : List (List ℕ)) → path_cmp x.0 q ≡ Less → lookup (x ∷ es) q ≡ lookup es q
skips x es q less = ap (λ b. cond b (Some x.1) (lookup es q)) (false_from_ne_true (eq_by_cmp path_cmp q x.0) (λ tied. not_less_itself q (subst (λ p. path_cmp p q ≡ Less) (sym (same_path q x.0 tied)) less)))

-- where what is found holds, all entries hold
pub all_hold : (P : Entry HeldFile → Type 0) (es : Entries HeldFile) → is_sorted path_cmp es ≡ true → ((q : List (List ℕ)) (e : Entry HeldFile) → lookup es q ≡ Some e → P e) → AllByRecursion (λ x. P x.1) es
all_hold P [] sorted holds = tt
all_hold P (x ∷ es) sorted holds =
    let parts = and_parts (below_all path_cmp x.0 es) (is_sorted path_cmp es) sorted in
    let above = all_above x.0 es parts.0 in (
      holds x.0 x.1 (ap (λ b. cond b (Some x.1) (lookup es x.0)) (tied_path x.0 x.0 refl)),
      all_hold P es parts.1 (λ q e found. holds q e (skips x es q (found_holds_path es q e above found) ∙ found)),
    )
  where
    found_holds_path : (rest : Entries HeldFile) (q : List (List ℕ)) (e : Entry HeldFile) → AllByRecursion (λ (y : List (List ℕ) × Entry HeldFile). path_cmp x.0 y.0 ≡ Less) rest → lookup rest q ≡ Some e → path_cmp x.0 q ≡ Less
    found_holds_path [] q e all found = absurd (none-some e found)
    found_holds_path (y ∷ rest) q e all found =
        elim (eq_by_cmp path_cmp q y.0) as (λ b. eq_by_cmp path_cmp q y.0 ≡ b → cond b (Some y.1) (lookup rest q) ≡ Some e → path_cmp x.0 q ≡ Less) [
          | true ↦ λ tied _. subst (λ p. path_cmp x.0 p ≡ Less) (sym (same_path q y.0 tied)) all.0
          | false ↦ λ _ more. found_holds_path rest q e all.1 more
        ] refl found
