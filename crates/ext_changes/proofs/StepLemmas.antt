-- The changes of two lists of entries in path order, by the least path of both.
use Rattle.std.proofs.Common.{◌≡◌, ℕ, true, false, cond, ◌⊎◌, inl, inr, ⊎_elim, List, [], ◌∷◌, ◌++◌, Option, Some, None, is_some, refl, sym, ap, ◌∙◌, subst, arith}
use Rattle.std.proofs.lemmas.Bool.{and_parts, and_from, false≢true}
use Rattle.std.specs.Ordering.{is_lt, eq_by_cmp, ordering_reverse}
use Rattle.std.specs.declared.cmp.Ordering.TheVariants.{Less, Equal, Greater}
use Rattle.std.specs.FinMap.{is_sorted}
use Rattle.std.specs.FinMap.Entries.{below_all}
use Rattle.std.specs.Option.{option_map}
use Rattle.ext_text.specs.Order.{paths_exact, paths_total}
use Rattle.ext_text.specs.Path.{path_cmp}
use Rattle.ext_tree.specs.Tree.{Entries, lookup}
use Rattle.ext_tree.specs.declared.entry.Entry.{Entry}
use Rattle.ext_tree.specs.declared.stamp.Stamp.{Stamp}
use Rattle.ext_tree.proofs.ForCallers.{below_trans}
use Rattle.ext_changes.specs.Changes.{AreChanges, Changes, IsChanged, DiffersBy, change_at, stamped}
use Rattle.ext_changes.specs.Told.{at_path}
use Rattle.ext_changes.specs.Walking.{Leads}
use Rattle.ext_changes.specs.declared.change.ChangeKind.{ChangeKind}
use Rattle.ext_changes.specs.declared.change.ChangeKind.TheVariants.{Added, Removed}
use Rattle.ext_changes.proofs.OrderLemmas.{HasFirst, StandsAbove, above_found, absent, below_found, first_at, first_entry, first_none}

-- at the path of a change that stands first
pub change_here : (k q : List (List ℕ)) (kind : Option ChangeKind) (more : Changes) → eq_by_cmp path_cmp q k ≡ true → change_at more q ≡ None → change_at (at_path k kind ++ more) q ≡ kind
change_here k q None more tied none = none
change_here k q (Some kind) more tied none = ap (λ b. cond b (Some kind) (change_at more q)) tied

-- and at another one
pub change_there : (k q : List (List ℕ)) (kind : Option ChangeKind) (more : Changes) → eq_by_cmp path_cmp q k ≡ false → change_at (at_path k kind ++ more) q ≡ change_at more q
change_there k q None more other = refl
change_there k q (Some kind) more other = ap (λ b. cond b (Some kind) (change_at more q)) other

pub sorted_first : (k : List (List ℕ)) (kind : Option ChangeKind) (more : Changes) → StandsAbove k more → is_sorted path_cmp more ≡ true → is_sorted path_cmp (at_path k kind ++ more) ≡ true
sorted_first k None more above sorted = sorted
sorted_first k (Some kind) more above sorted = and_from _ _ (below_found k more above) sorted

module _ {A B : Type 0} (f : A → Stamp) (g : B → Stamp) where
  -- what differs stands in one of the trees
  pub stands_in : (old : Option (Entry A)) (new : Option (Entry B)) (kind : Option ChangeKind) → DiffersBy (option_map (stamped f) old) (option_map (stamped g) new) kind → is_some kind ≡ true → (is_some old ≡ true) ⊎ (is_some new ≡ true)
  stands_in None None kind is found = absurd (false≢true (sym (ap is_some is) ∙ found))
  stands_in None (Some new) kind is found = inr refl
  stands_in (Some old) new kind is found = inl refl

  -- the changes stand above what both lists stand above
  pub changes_above : (k : List (List ℕ)) (es : Entries A) (fs : Entries B) (more : Changes) → StandsAbove k es → StandsAbove k fs → AreChanges f g es fs more → StandsAbove k more
  changes_above k es fs more above_es above_fs changes q found =
      ⊎_elim (above_es q) (above_fs q) (stands_in (lookup es q) (lookup fs q) (change_at more q) (changes.each q) found)

  -- a path before all others, with how it differs
  pub next : (k : List (List ℕ)) (es left : Entries A) (fs rest : Entries B) (old : Option (Entry A)) (new : Option (Entry B)) (kind : Option ChangeKind)
      → HasFirst k old es left → HasFirst k new fs rest → StandsAbove k left → StandsAbove k rest
      → DiffersBy (option_map (stamped f) old) (option_map (stamped g) new) kind
      → (more : Changes) → AreChanges f g left rest more → AreChanges f g es fs (at_path k kind ++ more)
  next k es left fs rest old new kind has_old has_new above_left above_rest is more changes =
      let above : StandsAbove k more = changes_above k left rest more above_left above_rest changes in
      record {
        sorted = sorted_first k kind more above changes.sorted;
        each = λ q.
            subst (λ x. DiffersBy (option_map (stamped f) x) (option_map (stamped g) (lookup fs q)) (change_at (at_path k kind ++ more) q)) (sym (has_old q))
            (subst (λ y. DiffersBy (option_map (stamped f) (cond (eq_by_cmp path_cmp q k) old (lookup left q))) (option_map (stamped g) y) (change_at (at_path k kind ++ more) q)) (sym (has_new q))
            (elim (eq_by_cmp path_cmp q k) as (λ b. eq_by_cmp path_cmp q k ≡ b → DiffersBy (option_map (stamped f) (cond b old (lookup left q))) (option_map (stamped g) (cond b new (lookup rest q))) (change_at (at_path k kind ++ more) q)) [
              | true ↦ λ tied. subst (DiffersBy (option_map (stamped f) old) (option_map (stamped g) new)) (sym (change_here k q kind more tied (absent k q (change_at more q) tied (above q)))) is
              | false ↦ λ other. subst (DiffersBy (option_map (stamped f) (lookup left q)) (option_map (stamped g) (lookup rest q))) (sym (change_there k q kind more other)) (changes.each q)
            ] refl));
      }

  -- no entries, no changes
  no_changes : AreChanges f g [] [] []
  no_changes = record { sorted = refl; each = λ q. refl }

  pub no_changes_of : (es : Entries A) (fs : Entries B) → es ≡ [] → fs ≡ [] → AreChanges f g es fs []
  no_changes_of es fs none no_more = subst (λ x. AreChanges f g x fs []) (sym none) (subst (λ y. AreChanges f g [] y []) (sym no_more) no_changes)

  -- the first entry of the earlier list alone
  pub leads_removed : (e : List (List ℕ) × Entry A) (es : Entries A) (fs : Entries B) → is_sorted path_cmp (e ∷ es) ≡ true → is_sorted path_cmp fs ≡ true → below_all path_cmp e.0 fs ≡ true
      → Leads f g (e ∷ es) fs (at_path e.0 (Some Removed)) es fs
  leads_removed e es fs sorted sorted_fs below =
      let parts = and_parts (below_all path_cmp e.0 es) (is_sorted path_cmp es) sorted in
      let above = above_found e.0 fs below in
      record {
        whole = next e.0 (e ∷ es) es fs fs (Some e.1) None (Some Removed) (first_entry e es) (first_none e.0 fs above) (above_found e.0 es parts.0) above refl;
        earlier_sorted = parts.1;
        later_sorted = sorted_fs;
        less = omega arith;
      }

  -- the first entry of the later list alone
  pub leads_added : (es : Entries A) (e : List (List ℕ) × Entry B) (fs : Entries B) → is_sorted path_cmp es ≡ true → is_sorted path_cmp (e ∷ fs) ≡ true → below_all path_cmp e.0 es ≡ true
      → Leads f g es (e ∷ fs) (at_path e.0 (Some Added)) es fs
  leads_added es e fs sorted_es sorted below =
      let parts = and_parts (below_all path_cmp e.0 fs) (is_sorted path_cmp fs) sorted in
      let above = above_found e.0 es below in
      record {
        whole = next e.0 es es (e ∷ fs) fs None (Some e.1) (Some Added) (first_none e.0 es above) (first_entry e fs) above (above_found e.0 fs parts.0) refl;
        earlier_sorted = sorted_es;
        later_sorted = parts.1;
        less = omega arith;
      }

  -- the first entries of both, at one path
  pub leads_both : (e : List (List ℕ) × Entry A) (es : Entries A) (d : List (List ℕ) × Entry B) (fs : Entries B) (kind : Option ChangeKind) → is_sorted path_cmp (e ∷ es) ≡ true → is_sorted path_cmp (d ∷ fs) ≡ true → Equal ≡ path_cmp e.0 d.0
      → IsChanged (stamped f e.1) (stamped g d.1) kind → Leads f g (e ∷ es) (d ∷ fs) (at_path e.0 kind) es fs
  leads_both e es d fs kind sorted_es sorted_fs tied is =
      let same : e.0 ≡ d.0 = paths_exact e.0 d.0 (sym tied) in
      let left = and_parts (below_all path_cmp e.0 es) (is_sorted path_cmp es) sorted_es in
      let rest = and_parts (below_all path_cmp d.0 fs) (is_sorted path_cmp fs) sorted_fs in
      record {
        whole = next e.0 (e ∷ es) es (d ∷ fs) fs (Some e.1) (Some d.1) kind (first_entry e es) (first_at e.0 d fs same)
            (above_found e.0 es left.0) (above_found e.0 fs (subst (λ p. below_all path_cmp p fs ≡ true) (sym same) rest.0)) is;
        earlier_sorted = left.1;
        later_sorted = rest.1;
        less = omega arith;
      }

  -- the first entry of the earlier list comes first
  pub leads_less : (e : List (List ℕ) × Entry A) (es : Entries A) (d : List (List ℕ) × Entry B) (fs : Entries B) → is_sorted path_cmp (e ∷ es) ≡ true → is_sorted path_cmp (d ∷ fs) ≡ true → Less ≡ path_cmp e.0 d.0
      → Leads f g (e ∷ es) (d ∷ fs) (at_path e.0 (Some Removed)) es (d ∷ fs)
  leads_less e es d fs sorted_es sorted_fs less =
      let rest = and_parts (below_all path_cmp d.0 fs) (is_sorted path_cmp fs) sorted_fs in
      leads_removed e es (d ∷ fs) sorted_es sorted_fs (and_from _ _ (sym (ap is_lt less)) (below_trans e.0 d.0 fs (sym less) rest.0))

  -- and that of the later list
  pub leads_greater : (e : List (List ℕ) × Entry A) (es : Entries A) (d : List (List ℕ) × Entry B) (fs : Entries B) → is_sorted path_cmp (e ∷ es) ≡ true → is_sorted path_cmp (d ∷ fs) ≡ true → Greater ≡ path_cmp e.0 d.0
      → Leads f g (e ∷ es) (d ∷ fs) (at_path d.0 (Some Added)) (e ∷ es) fs
  leads_greater e es d fs sorted_es sorted_fs greater =
      let less : path_cmp d.0 e.0 ≡ Less = paths_total.antisymm d.0 e.0 ∙ ap ordering_reverse (sym greater) in
      let left = and_parts (below_all path_cmp e.0 es) (is_sorted path_cmp es) sorted_es in
      leads_added (e ∷ es) d fs sorted_es sorted_fs (and_from _ _ (ap is_lt less) (below_trans d.0 e.0 es less left.0))

  -- the same of equal lists
  pub leads_along : (earlier es a left : Entries A) (later fs b rest : Entries B) (found told_ : Changes) → earlier ≡ es → later ≡ fs → found ≡ told_ → a ≡ left → b ≡ rest
      → Leads f g es fs told_ left rest → Leads f g earlier later found a b
  leads_along earlier es a left later fs b rest found told_ p q r s t leads =
      subst (λ x. Leads f g x later found a b) (sym p)
      (subst (λ x. Leads f g es x found a b) (sym q)
      (subst (λ x. Leads f g es fs x a b) (sym r)
      (subst (λ x. Leads f g es fs told_ x b) (sym s)
      (subst (Leads f g es fs told_ left) (sym t) leads))))
