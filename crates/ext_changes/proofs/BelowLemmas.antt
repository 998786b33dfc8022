-- The changes at and below a path: how the path itself differs, and the changes of what both trees have below it.
use Rattle.std.proofs.Common.{◌≡◌, ℕ, Bool, true, false, cond, not, ◌&&◌, ◌++◌, List, Option, None, is_some, refl, sym, ap, ◌∙◌, subst}
use Rattle.std.proofs.lemmas.Bool.{and_parts, false≢true, true≢false}
use Rattle.std.specs.Ordering.{eq_by_cmp}
use Rattle.std.specs.FinMap.Entries.{where_key}
use Rattle.std.specs.Option.{option_map}
use Rattle.ext_text.specs.Path.{path_cmp, is_prefix, is_proper_prefix}
use Rattle.ext_text.proofs.ForCallers.{prefix_first, prefix_less, prefix_self, prefix_shorter, proper_first, same_path, tied_path}
use Rattle.ext_tree.specs.Tree.{Entries, lookup}
use Rattle.ext_tree.specs.declared.entry.Entry.{Entry}
use Rattle.ext_tree.specs.declared.stamp.Stamp.{Stamp}
use Rattle.ext_tree.proofs.ForCallers.{lookup_where}
use Rattle.ext_changes.specs.Changes.{AreChanges, AreChangesBelow, Changes, DiffersBy, change_at, stamped, stamped_at}
use Rattle.ext_changes.specs.Told.{at_path}
use Rattle.ext_changes.specs.Walking.{Adds}
use Rattle.ext_changes.specs.declared.change.ChangeKind.{ChangeKind}
use Rattle.ext_changes.proofs.OrderLemmas.{StandsAbove, absent}
use Rattle.ext_changes.proofs.StepLemmas.{changes_above, change_here, change_there, sorted_first}

-- what is below a path is at none that does not begin with it
not_proper : (p q : List (List ℕ)) → is_prefix p q ≡ false → is_proper_prefix p q ≡ false
not_proper p q apart = ap (λ b. b && not (is_prefix q p)) apart

-- a path that begins with another one is that or below it
is_proper : (p q : List (List ℕ)) → is_prefix p q ≡ true → eq_by_cmp path_cmp q p ≡ false → is_proper_prefix p q ≡ true
is_proper p q prefix other = (proper_first p q).1 ((prefix_first p q).0 prefix, prefix_shorter p q prefix (λ same. true≢false (sym (tied_path q p (sym same)) ∙ other)))

not_tied : (p q : List (List ℕ)) → is_prefix p q ≡ false → eq_by_cmp path_cmp q p ≡ false
not_tied p q apart =
    elim (eq_by_cmp path_cmp q p) as (λ b. eq_by_cmp path_cmp q p ≡ b → b ≡ false) [
      | true ↦ λ tied. absurd (true≢false (sym (prefix_self p) ∙ ap (is_prefix p) (sym (same_path q p tied)) ∙ apart))
      | false ↦ λ _. refl
    ] refl

found_in : {C : Type 0} (b : Bool) (o : Option (Entry C)) → is_some (cond b o None) ≡ true → b ≡ true
found_in true o found = refl
found_in false o found = absurd (false≢true found)

module _ {C : Type 0} (p : List (List ℕ)) (es : Entries C) where
  below_above : StandsAbove p (where_key path_cmp (is_proper_prefix p) es)
  below_above q found =
      let proper : is_proper_prefix p q ≡ true = found_in (is_proper_prefix p q) (lookup es q) (sym (ap is_some (lookup_where (is_proper_prefix p) q es)) ∙ found) in
      prefix_less p q (and_parts (is_prefix p q) (not (is_prefix q p)) proper).0 ((proper_first p q).0 proper).1

  stamped_below : (f : C → Stamp) (q : List (List ℕ)) (b : Bool) → is_proper_prefix p q ≡ b → stamped_at f (where_key path_cmp (is_proper_prefix p) es) q ≡ option_map (stamped f) (cond b (lookup es q) None)
  stamped_below f q b is = ap (option_map (stamped f)) (lookup_where (is_proper_prefix p) q es ∙ ap (λ t. cond t (lookup es q) None) is)

module _ {A B : Type 0} (f : A → Stamp) (g : B → Stamp) where
  pub changes_below : (p : List (List ℕ)) (es : Entries A) (fs : Entries B) (kind : Option ChangeKind) (more : Changes)
      → DiffersBy (stamped_at f es p) (stamped_at g fs p) kind
      → AreChanges f g (where_key path_cmp (is_proper_prefix p) es) (where_key path_cmp (is_proper_prefix p) fs) more
      → AreChangesBelow f g p es fs (at_path p kind ++ more)
  changes_below p es fs kind more is changes =
      let below_es = where_key path_cmp (is_proper_prefix p) es in
      let below_fs = where_key path_cmp (is_proper_prefix p) fs in
      let above : StandsAbove p more = changes_above f g p below_es below_fs more (below_above p es) (below_above p fs) changes in
      record {
        sorted = sorted_first p kind more above changes.sorted;
        each = λ q prefix.
            elim (eq_by_cmp path_cmp q p) as (λ b. eq_by_cmp path_cmp q p ≡ b → DiffersBy (stamped_at f es q) (stamped_at g fs q) (change_at (at_path p kind ++ more) q)) [
              | true ↦ λ tied.
                  subst (DiffersBy (stamped_at f es q) (stamped_at g fs q)) (sym (change_here p q kind more tied (absent p q (change_at more q) tied (above q))))
                  (subst (λ r. DiffersBy (stamped_at f es r) (stamped_at g fs r) kind) (sym (same_path q p tied)) is)
              | false ↦ λ other.
                  let proper = is_proper p q prefix other in
                  subst (DiffersBy (stamped_at f es q) (stamped_at g fs q)) (sym (change_there p q kind more other))
                  (subst (λ x. DiffersBy x (stamped_at g fs q) (change_at more q)) (stamped_below p es f q true proper)
                  (subst (λ y. DiffersBy (stamped_at f below_es q) y (change_at more q)) (stamped_below p fs g q true proper) (changes.each q)))
            ] refl;
        elsewhere = λ q apart.
            change_there p q kind more (not_tied p q apart)
            ∙ subst (λ x. DiffersBy x None (change_at more q)) (stamped_below p es f q false (not_proper p q apart))
            (subst (λ y. DiffersBy (stamped_at f below_es q) y (change_at more q)) (stamped_below p fs g q false (not_proper p q apart)) (changes.each q));
      }

  -- the same of what calls gave
  pub below_calls : (p : List (List ℕ)) (es slice : Entries A) (fs other : Entries B) (kind : Option ChangeKind) (first last : Changes)
      → DiffersBy (stamped_at f es p) (stamped_at g fs p) kind → first ≡ at_path p kind
      → slice ≡ where_key path_cmp (is_proper_prefix p) es → other ≡ where_key path_cmp (is_proper_prefix p) fs
      → Adds f g slice other first last → AreChangesBelow f g p es fs last
  below_calls p es slice fs other kind first last is begun of_es of_fs adds =
      subst (AreChangesBelow f g p es fs) (sym (adds.added ∙ ap (λ cs. cs ++ adds.more) begun))
      (changes_below p es fs kind adds.more is
      (subst (λ x. AreChanges f g x (where_key path_cmp (is_proper_prefix p) fs) adds.more) of_es
      (subst (λ y. AreChanges f g slice y adds.more) of_fs adds.changes)))
