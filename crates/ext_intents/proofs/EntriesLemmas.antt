-- What holds of each entry of a tree, and of each that is found in it.
use Rattle.std.proofs.Common.{◌≡◌, ℕ, zero, suc, Bool, true, false, cond, List, [], ◌∷◌, Some, is_some, refl, ap, subst}
use Rattle.std.specs.Prelude.{slice_get}
use Rattle.std.specs.List.{AllByRecursion}
use Rattle.std.specs.FinMap.Entries.{where_key}
use Rattle.std.specs.Ordering.{eq_by_cmp}
use Rattle.std.proofs.lemmas.Bool.{false≢true}
use Rattle.ext_text.specs.Order.{paths_total}
use Rattle.ext_text.specs.Path.{path_cmp}
use Rattle.ext_tree.specs.Tree.{Entries, IsTree, lookup}
use Rattle.ext_tree.specs.declared.entry.Entry.{Entry}
use Rattle.ext_tree.proofs.ForCallers.{find_there}

-- what holds at each index holds of each
by_index : {X : Type 0} (P : X → Type 0) (xs : List X) → ((i : ℕ) (x : X) → slice_get xs i ≡ Some x → P x) → AllByRecursion P xs
by_index P [] holds = tt
by_index P (x ∷ xs) holds = (holds zero x refl, by_index P xs (λ i y at. holds (suc i) y at))

-- what holds of each entry that is found in a tree holds of each of its entries
pub all_of_found : {C : Type 0} (P : Entry C → Type 0) (es : Entries C) → IsTree es → ((q : List (List ℕ)) (e : Entry C) → lookup es q ≡ Some e → P e) → AllByRecursion (λ x. P x.1) es
all_of_found P es tree holds = by_index (λ x. P x.1) es (λ i x at. holds x.0 x.1 (find_there path_cmp paths_total es i x tree.sorted at))

-- and the other way
pub found_of_all : {C : Type 0} (P : Entry C → Type 0) (es : Entries C) (q : List (List ℕ)) (e : Entry C) → AllByRecursion (λ x. P x.1) es → lookup es q ≡ Some e → P e
found_of_all P [] q e all found = absurd (false≢true (ap is_some found))
found_of_all {C = C} P (x ∷ es) q e all found =
    elim (eq_by_cmp path_cmp q x.0) as (λ b. cond b (Some x.1) (lookup es q) ≡ Some e → P e) [
      | true ↦ λ here. let same : x.1 ≡ e = cc in subst P same all.0
      | false ↦ λ there. found_of_all P es q e all.1 there
    ] found

-- what holds of each holds of those that are kept
pub all_where : {C : Type 0} (P : Entry C → Type 0) (test : List (List ℕ) → Bool) (es : Entries C) → AllByRecursion (λ x. P x.1) es → AllByRecursion (λ x. P x.1) (where_key path_cmp test es)
all_where P test [] all = tt
all_where P test (x ∷ es) all =
    elim (test x.0) as (λ b. AllByRecursion (λ x. P x.1) (cond b (x ∷ where_key path_cmp test es) (where_key path_cmp test es))) [
      | true ↦ (all.0, all_where P test es all.1)
      | false ↦ all_where P test es all.1
    ]
