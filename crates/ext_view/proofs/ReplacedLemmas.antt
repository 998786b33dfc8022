-- Entries in the place of what a tree has at and below some names: look-ups, and that the whole is a tree.
use Rattle.std.proofs.Common.{◌≡◌, ℕ, true, false, cond, not, List, [], ◌∷◌, Option, Some, None, is_some, refl, sym, ap, ◌∙◌, subst}
use Rattle.std.proofs.lemmas.Bool.{true≢false}
use Rattle.std.specs.List.{AllByRecursion}
use Rattle.std.specs.Ordering.{eq_by_cmp}
use Rattle.std.specs.FinMap.{is_sorted}
use Rattle.ext_text.specs.Order.{paths_exact}
use Rattle.ext_text.specs.Path.{IsPath, is_prefix, parent, path_cmp}
use Rattle.ext_text.proofs.ForCallers.{is_equal, parent_prefix}
use Rattle.ext_tree.specs.Tree.{Entries, IsTree, is_directory_at, is_directory_or_root, lookup}
use Rattle.ext_tree.specs.declared.entry.Entry.{Entry}
use Rattle.ext_tree.proofs.ForCallers.{first_found, lookup_put_all}
use Rattle.ext_host.specs.Host.{is_in}
use Rattle.ext_view.specs.Inside.{outside}
use Rattle.ext_view.specs.Replaced.{replaced}
use Rattle.ext_view.proofs.InsideLemmas.{in_prefix, in_root, lookup_outside}

nothing_else : {X : Type 0} (o : Option X) → first_found o None ≡ o
nothing_else None = refl
nothing_else (Some x) = refl

module _ {C : Type 0} where
  -- no entry is found outside the names where each is in them
  pub none_outside : (names : List (List ℕ)) (es : Entries C) (p : List (List ℕ)) → AllByRecursion (λ e. is_in names e.0 ≡ true) es → is_in names p ≡ false → lookup es p ≡ None
  none_outside names [] p all out = refl
  none_outside names (e ∷ es) p all out =
      elim (eq_by_cmp path_cmp p e.0) as (λ b. eq_by_cmp path_cmp p e.0 ≡ b → cond b (Some e.1) (lookup es p) ≡ None) [
        | true ↦ λ tied. absurd (true≢false (sym all.0 ∙ ap (is_in names) (sym (paths_exact p e.0 (is_equal _ tied))) ∙ out))
        | false ↦ λ _. none_outside names es p all.1 out
      ] refl

  -- what stands at a path of the names is new, and elsewhere what stood there
  pub lookup_replaced : (names : List (List ℕ)) (es new : Entries C) (p : List (List ℕ)) → AllByRecursion (λ e. is_in names e.0 ≡ true) new → lookup (replaced names es new) p ≡ cond (is_in names p) (lookup new p) (lookup es p)
  lookup_replaced names es new p all =
      lookup_put_all (outside names es) new p ∙ ap (λ o. first_found o (lookup new p)) (lookup_outside names p es)
      ∙ elim (is_in names p) as (λ b. is_in names p ≡ b → first_found (cond (not b) (lookup es p) None) (lookup new p) ≡ cond b (lookup new p) (lookup es p)) [
        | true ↦ λ _. refl
        | false ↦ λ out. ap (first_found (lookup es p)) (none_outside names new p all out) ∙ nothing_else (lookup es p)
      ] refl

  module _ (names : List (List ℕ)) (es new all : Entries C) (says : (p : List (List ℕ)) → lookup all p ≡ cond (is_in names p) (lookup new p) (lookup es p)) where
    -- a fact of what is found follows from that fact in both
    each_way : (P : Option (Entry C) → Type 0) (p : List (List ℕ)) → (is_in names p ≡ true → P (lookup new p)) → (is_in names p ≡ false → P (lookup es p)) → P (lookup all p)
    each_way P p there here =
        subst P (sym (says p)) (elim (is_in names p) as (λ b. is_in names p ≡ b → P (cond b (lookup new p) (lookup es p))) [ true ↦ there | false ↦ here ] refl)

    directory_at : (p q : List (List ℕ)) → is_prefix q p ≡ true → (is_in names p ≡ true → is_directory_or_root new q ≡ true) → (is_in names p ≡ false → is_directory_or_root es q ≡ true) → is_directory_or_root all q ≡ true
    directory_at p [] prefix there here = refl
    directory_at p (m ∷ q) prefix there here =
        let same = in_prefix names m q p prefix in
        each_way (λ o. is_directory_at o ≡ true) (m ∷ q) (λ in_. there (sym same ∙ in_)) (λ out. here (sym same ∙ out))

    pub tree_replaced : IsTree es → IsTree new → is_sorted path_cmp all ≡ true → IsTree all
    tree_replaced old fresh sorted = record {
      sorted = sorted;
      root = says [] ∙ ap (λ b. cond b (lookup new []) (lookup es [])) (in_root names) ∙ old.root;
      paths = λ p. each_way (λ o. is_some o ≡ true → IsPath p) p (λ _. fresh.paths p) (λ _. old.paths p);
      parents = λ p. each_way (λ o. is_some o ≡ true → is_directory_or_root all (parent p) ≡ true) p
          (λ in_ found. directory_at p (parent p) (parent_prefix p) (λ _. fresh.parents p found) (λ out. absurd (true≢false (sym in_ ∙ out))))
          (λ out found. directory_at p (parent p) (parent_prefix p) (λ in_. absurd (true≢false (sym in_ ∙ out))) (λ _. old.parents p found));
    }

  -- what is outside stands at no path of what is inside
  pub apart_outside : (names : List (List ℕ)) (es new : Entries C) → AllByRecursion (λ e. is_in names e.0 ≡ true) new → AllByRecursion (λ u. lookup new u.0 ≡ None) (outside names es)
  apart_outside names [] new all = tt
  apart_outside names (e ∷ es) new all =
      elim (is_in names e.0) as (λ b. is_in names e.0 ≡ b → AllByRecursion (λ u. lookup new u.0 ≡ None) (cond (not b) (e ∷ outside names es) (outside names es))) [
        | true ↦ λ _. apart_outside names es new all
        | false ↦ λ out. (none_outside names new e.0 all out, apart_outside names es new all)
      ] refl
