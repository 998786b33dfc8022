-- What entries put among others come to: their number, their bytes, and what holds of each.
use Rattle.std.proofs.Common.{◌≡◌, ℕ, ◌+◌, true, false, cond, not, List, [], ◌∷◌, refl}
use Rattle.std.proofs.lemmas.List.Filters.{sum_by-filter_both}
use Rattle.std.specs.List.{AllByRecursion, sum_by}
use Rattle.std.specs.FinMap.{is_sorted}
use Rattle.ext_text.specs.Path.{path_cmp}
use Rattle.ext_tree.specs.Tree.{Entries}
use Rattle.ext_tree.specs.declared.entry.Entry.{Entry}
use Rattle.ext_tree.proofs.ForCallers.{all_put_all, sum_by-put_all}
use Rattle.ext_host.specs.Host.{is_in}
use Rattle.ext_view.specs.Inside.{inside, outside}
use Rattle.ext_view.specs.Replaced.{replaced}
use Rattle.ext_view.proofs.InsideLemmas.{sorted_where}
use Rattle.ext_view.proofs.ReplacedLemmas.{apart_outside}

module _ {C : Type 0} where
  module _ (w : List (List ℕ) × Entry C → ℕ) where
    -- what is outside, and what is new
    pub sum_by-replaced : (names : List (List ℕ)) (es new : Entries C) → is_sorted path_cmp es ≡ true → AllByRecursion (λ e. is_in names e.0 ≡ true) new → sum_by w (replaced names es new) ≡ sum_by w (outside names es) + sum_by w new
    sum_by-replaced names es new sorted all =
        sum_by-put_all w (outside names es) new (sorted_where (λ p. not (is_in names p)) es sorted) (apart_outside names es new all)

    -- what is outside and what is inside is the whole
    pub sum_by-parts : (names : List (List ℕ)) (es : Entries C) → sum_by w (inside names es) + sum_by w (outside names es) ≡ sum_by w es
    sum_by-parts names es = sum_by-filter_both (λ e. is_in names e.0) (λ e. not (is_in names e.0)) (λ e. refl) w es

  module _ (P : Entry C → Type 0) where
    pub all_outside : (names : List (List ℕ)) (es : Entries C) → AllByRecursion (λ e. P e.1) es → AllByRecursion (λ e. P e.1) (outside names es)
    all_outside names [] all = tt
    all_outside names (e ∷ es) all =
        let rest = all_outside names es all.1 in
        elim (is_in names e.0) as (λ b. AllByRecursion (λ e. P e.1) (cond (not b) (e ∷ outside names es) (outside names es))) [ true ↦ rest | false ↦ (all.0, rest) ]

    pub all_within : (names : List (List ℕ)) (es : Entries C) → AllByRecursion (λ e. P e.1) es → AllByRecursion (λ e. P e.1) (inside names es)
    all_within names [] all = tt
    all_within names (e ∷ es) all =
        let rest = all_within names es all.1 in
        elim (is_in names e.0) as (λ b. AllByRecursion (λ e. P e.1) (cond b (e ∷ inside names es) (inside names es))) [ true ↦ (all.0, rest) | false ↦ rest ]

    pub all_replaced : (names : List (List ℕ)) (es new : Entries C) → AllByRecursion (λ e. P e.1) es → AllByRecursion (λ e. P e.1) new → AllByRecursion (λ e. P e.1) (replaced names es new)
    all_replaced names es new old fresh = all_put_all P (outside names es) new (all_outside names es old) fresh
