-- Lists by paths in path order: what stands above a path, and what a list has at and past its first path.
use Rattle.std.proofs.Common.{◌≡◌, ℕ, true, false, cond, List, [], ◌∷◌, Option, Some, None, is_some, refl, sym, ap, ◌∙◌, subst}
use Rattle.std.proofs.lemmas.Bool.{and_parts, and_from, false≢true}
use Rattle.std.specs.List.{AllByRecursion}
use Rattle.std.specs.Ordering.{is_lt, is_eq, eq_by_cmp}
use Rattle.std.specs.declared.cmp.Ordering.TheVariants.{Less}
use Rattle.std.specs.FinMap.{find}
use Rattle.std.specs.FinMap.Entries.{below_all}
use Rattle.ext_text.specs.Order.{paths_total}
use Rattle.ext_text.specs.Path.{path_cmp}
use Rattle.ext_text.proofs.ForCallers.{is_less, same_path, tied_path}
use Rattle.ext_tree.proofs.ForCallers.{each_found}

-- every path of the list comes after this one
abbrev pub StandsAbove : {X : Type 0} → List (List ℕ) → List (List (List ℕ) × X) → Type 0
StandsAbove k es = (q : List (List ℕ)) → is_some (find path_cmp q es) ≡ true → path_cmp k q ≡ Less

-- a list has at one path what is told, and elsewhere what another one has
abbrev pub HasFirst : {X : Type 0} → List (List ℕ) → Option X → List (List (List ℕ) × X) → List (List (List ℕ) × X) → Type 0
HasFirst k o es left = (q : List (List ℕ)) → find path_cmp q es ≡ cond (eq_by_cmp path_cmp q k) o (find path_cmp q left)

-- nothing that comes after a path is found at it
pub absent : {X : Type 0} (k q : List (List ℕ)) (o : Option X) → eq_by_cmp path_cmp q k ≡ true → (is_some o ≡ true → path_cmp k q ≡ Less) → o ≡ None
absent k q None tied above = refl
absent k q (Some x) tied above = absurd (false≢true (sym (ap is_eq (above refl)) ∙ tied_path k q (sym (same_path q k tied))))

module _ {X : Type 0} where
  pub above_found : (k : List (List ℕ)) (es : List (List (List ℕ) × X)) → below_all path_cmp k es ≡ true → StandsAbove k es
  above_found k [] below q found = absurd (false≢true found)
  above_found k (e ∷ es) below q found =
      let parts = and_parts (is_lt (path_cmp k e.0)) (below_all path_cmp k es) below in
      elim (eq_by_cmp path_cmp q e.0) as (λ b. eq_by_cmp path_cmp q e.0 ≡ b → is_some (cond b (Some e.1) (find path_cmp q es)) ≡ true → path_cmp k q ≡ Less) [
        | true ↦ λ tied _. subst (λ p. path_cmp k p ≡ Less) (sym (same_path q e.0 tied)) (is_less _ parts.0)
        | false ↦ λ _ there. above_found k es parts.1 q there
      ] refl found

  all_below : (k : List (List ℕ)) (es : List (List (List ℕ) × X)) → AllByRecursion (λ e. path_cmp k e.0 ≡ Less) es → below_all path_cmp k es ≡ true
  all_below k [] all = refl
  all_below k (e ∷ es) all = and_from _ _ (ap is_lt all.0) (all_below k es all.1)

  pub below_found : (k : List (List ℕ)) (es : List (List (List ℕ) × X)) → StandsAbove k es → below_all path_cmp k es ≡ true
  below_found k es above = all_below k es (each_found path_cmp paths_total (λ q. path_cmp k q ≡ Less) es above)

  -- the first entry, and none
  pub first_entry : (e : List (List ℕ) × X) (es : List (List (List ℕ) × X)) → HasFirst e.0 (Some e.1) (e ∷ es) es
  first_entry e es q = refl

  pub first_at : (k : List (List ℕ)) (e : List (List ℕ) × X) (es : List (List (List ℕ) × X)) → k ≡ e.0 → HasFirst k (Some e.1) (e ∷ es) es
  first_at k e es same q = ap (λ p. cond (eq_by_cmp path_cmp q p) (Some e.1) (find path_cmp q es)) (sym same)

  pub first_none : (k : List (List ℕ)) (es : List (List (List ℕ) × X)) → StandsAbove k es → HasFirst k None es es
  first_none k es above q =
      elim (eq_by_cmp path_cmp q k) as (λ b. eq_by_cmp path_cmp q k ≡ b → find path_cmp q es ≡ cond b None (find path_cmp q es)) [
        | true ↦ λ tied. absent k q (find path_cmp q es) tied (above q)
        | false ↦ λ _. refl
      ] refl
