-- What keeps a list of entries a tree.
use Rattle.std.proofs.Common.{◌≡◌, ℕ, ◌+◌, ◌<◌, ◌≤◌, Bool, true, false, cond, not, ◌||◌, List, [], ◌∷◌, length, Option, Some, None, Err, is_some, refl, sym, ap, ◌∙◌, subst, arith}
use Rattle.std.specs.Prelude.{IsTrue, slice_get, nat_le}
use Rattle.std.specs.List.{insert}
use Rattle.std.specs.Ordering.{eq_by_cmp}
use Rattle.std.specs.FinMap.{put}
use Rattle.std.specs.FinMap.Entries.{is_sorted-put, find-put, length-put}
use Rattle.std.proofs.lemmas.Bool.{true≢false, false≢true, or_parts, leb-false}
use Rattle.std.proofs.lemmas.Option.{same_Some}
use Rattle.std.proofs.lemmas.Float.{T_from_true}
use Rattle.ext_text.specs.Path.{IsPath, path_cmp, parent}
use Rattle.ext_text.specs.Order.{paths_total}
use Rattle.ext_text.proofs.ForCallers.{true_from_T, same_path}
use Rattle.ext_tree.specs.declared.entry.Entry.{Entry}
use Rattle.ext_tree.specs.declared.tree.TreeErr.{TreeErr}
use Rattle.ext_tree.specs.declared.tree.TreeErr.TheVariants.{Exists, NotDirectory, Limit}
use Rattle.ext_tree.specs.Tree.{Entries, IsTree, IsTreeWithin, lookup, is_directory_at, is_directory_or_root, most_entries}
use Rattle.ext_tree.specs.Refusals.{Refuses, insert_refusal, is_root}
use Rattle.ext_tree.specs.InsertionPoint.{insertion_point}
use Rattle.ext_tree.proofs.InsertionPointLemmas.{find_there, insert_here}

-- the parent of an entry is a directory or the root, by whatever spelling
pub directory_of : {C : Type 0} (es : Entries C) (i : ℕ) (e : List (List ℕ) × Entry C) (directory : List (List ℕ)) → IsTree es → slice_get es i ≡ Some e → eq_by_cmp path_cmp directory (parent e.0) ≡ true → IsTrue (is_directory_or_root es directory)
directory_of es i e directory tree at same =
    let there = find_there path_cmp paths_total es i e tree.sorted at in
    subst (λ f. IsTrue (is_directory_or_root es f)) (sym (same_path directory (parent e.0) same)) (tree.parents e.0 (ap is_some there))

none_there : {C : Type 0} (o : Option (Entry C)) → is_some o ≡ false → is_directory_at o ≡ true → ⊥
none_there None h dir = false≢true dir
none_there (Some e) h dir = true≢false h

no_entry : {A : Type 0} (o : Option A) → is_some o ≡ false → o ≡ None
no_entry None h = refl
no_entry (Some x) h = absurd (true≢false h)

-- nothing is against an entry
pub record IsFree {C : Type 0} (es : Entries C) (p : List (List ℕ)) : Type 0 where
  pub below : is_root p ≡ false
  pub absent : is_some (lookup es p) ≡ false
  pub directory : is_directory_or_root es (parent p) ≡ true
  pub room : length es < most_entries

free_by : (there directory full : Bool) → cond there (Some Exists) (cond (not directory) (Some NotDirectory) (cond full (Some Limit) None)) ≡ None → (there ≡ false) × (directory ≡ true) × (full ≡ false)
free_by true directory full h = absurd (true≢false (ap is_some h))
free_by false false full h = absurd (true≢false (ap is_some h))
free_by false true true h = absurd (true≢false (ap is_some h))
free_by false true false h = (refl, refl, refl)

pub is_free : {C : Type 0} (es : Entries C) (p : List (List ℕ)) → insert_refusal es p ≡ None → IsFree es p
is_free es p h =
    let parts = free_by (is_root p || is_some (lookup es p)) (is_directory_or_root es (parent p)) (nat_le most_entries (length es)) h in
    let here = or_parts (is_root p) (is_some (lookup es p)) parts.0 in
    record { below = here.0; absent = here.1; directory = parts.1; room = leb-false most_entries (length es) parts.2 }

-- a look-up in a tree with one entry more
at_put : {C : Type 0} (es : Entries C) (p q : List (List ℕ)) (e : Entry C) (P : List (List ℕ) → Type 0) → P p → (IsTrue (is_some (lookup es q)) → P q) → IsTrue (is_some (lookup (put path_cmp p e es) q)) → P q
at_put es p q e P here there h =
    elim (eq_by_cmp path_cmp q p) as (λ b. eq_by_cmp path_cmp q p ≡ b → is_some (cond b (Some e) (lookup es q)) ≡ true → P q) [
      | true ↦ λ same _. subst P (sym (same_path q p same)) here
      | false ↦ λ _ was. there was
    ] refl (sym (ap is_some (find-put path_cmp paths_total q p e es)) ∙ h)

-- a directory or root stays one where an entry comes that was absent
directory_stays : {C : Type 0} (es : Entries C) (p f : List (List ℕ)) (e : Entry C) → is_some (lookup es p) ≡ false → IsTrue (is_directory_or_root es f) → IsTrue (is_directory_or_root (put path_cmp p e es) f)
directory_stays es p [] e absent h = refl
directory_stays es p (n ∷ f) e absent h =
    ap is_directory_at (find-put path_cmp paths_total (n ∷ f) p e es)
    ∙ elim (eq_by_cmp path_cmp (n ∷ f) p) as (λ b. eq_by_cmp path_cmp (n ∷ f) p ≡ b → is_directory_at (cond b (Some e) (lookup es (n ∷ f))) ≡ true) [
      | true ↦ λ same. absurd (none_there (lookup es (n ∷ f)) (ap (λ q. is_some (lookup es q)) (same_path (n ∷ f) p same) ∙ absent) h)
      | false ↦ λ _. h
    ] refl

root_stays : {C : Type 0} (es : Entries C) (p : List (List ℕ)) (e : Entry C) → is_root p ≡ false → lookup es [] ≡ None → lookup (put path_cmp p e es) [] ≡ None
root_stays es [] e below root = absurd (true≢false below)
root_stays es (n ∷ p) e below root = find-put path_cmp paths_total [] (n ∷ p) e es ∙ root

-- a tree with an entry more where nothing is against it is one
pub tree_put : {C : Type 0} (es : Entries C) (p : List (List ℕ)) (e : Entry C) → IsTreeWithin es → IsPath p → insert_refusal es p ≡ None → IsTreeWithin (put path_cmp p e es)
tree_put es p e is path h =
    let free = is_free es p h in
    let tree = is.tree in
    let room = free.room in
    record {
      tree = record {
        sorted = true_from_T _ (is_sorted-put path_cmp paths_total p e es (T_from_true _ tree.sorted));
        root = root_stays es p e free.below tree.root;
        paths = λ q. at_put es p q e IsPath path (tree.paths q);
        parents = λ q. at_put es p q e (λ x. IsTrue (is_directory_or_root (put path_cmp p e es) (parent x))) (directory_stays es p (parent p) e free.absent free.directory) (λ was. directory_stays es p (parent q) e free.absent (tree.parents q was));
      };
      count = subst (λ n. n ≤ most_entries) (sym (length-put path_cmp paths_total p e es (T_from_true _ tree.sorted) ∙ ap (λ b. cond b (length es) (length es + 1)) free.absent)) (omega arith);
    }

-- what the entry is put into at its insertion point, where that and the refusal are asked of the list and the path as
-- they are seen through references
pub put_at : {C : Type 0} {es seen : Entries C} {p names : List (List ℕ)} {i : ℕ} (e : Entry C) → seen ≡ es → names ≡ p → i ≡ insertion_point path_cmp names seen → None ≡ insert_refusal seen p → insert es i (p, e) ≡ put path_cmp p e es
put_at {es = es} {p = p} e same named at free =
    ap (λ n. insert es n (p, e)) (at ∙ (λ j. insertion_point path_cmp (named j) (same j)))
    ∙ insert_here path_cmp paths_total p e es (no_entry _ (is_free es p (ap (λ es. insert_refusal es p) (sym same) ∙ sym free)).absent)

-- an entry put at its insertion point leaves a tree
pub tree_put_at : {C : Type 0} {es seen : Entries C} {p names : List (List ℕ)} {i : ℕ} (e : Entry C) → IsTreeWithin es → IsPath p → seen ≡ es → names ≡ p → i ≡ insertion_point path_cmp names seen → None ≡ insert_refusal seen p → IsTreeWithin (insert es i (p, e))
tree_put_at {es = es} {p = p} e is path same named at free =
    subst IsTreeWithin (sym (put_at e same named at free)) (tree_put es p e is path (ap (λ es. insert_refusal es p) (sym same) ∙ sym free))

refusal_kinds : (T : Type 0) (there outside full : Bool) (r : TreeErr) → Some r ≡ cond there (Some Exists) (cond outside (Some NotDirectory) (cond full (Some Limit) None)) → Refuses {T = T} (Err r) (cond there (Some Exists) (cond outside (Some NotDirectory) (cond full (Some Limit) None)))
refusal_kinds T true outside full r is = subst (λ (x : TreeErr). Refuses {T = T} (Err x) (Some Exists)) (sym (same_Some r Exists is)) refl
refusal_kinds T false true full r is = subst (λ (x : TreeErr). Refuses {T = T} (Err x) (Some NotDirectory)) (sym (same_Some r NotDirectory is)) refl
refusal_kinds T false false true r is = subst (λ (x : TreeErr). Refuses {T = T} (Err x) (Some Limit)) (sym (same_Some r Limit is)) refl
refusal_kinds T false false false r is = cc is

-- an insertion that is refused is refused for this reason
pub refused_so : {C : Type 0} (T : Type 0) (es : Entries C) (p : List (List ℕ)) (r : TreeErr) → Some r ≡ insert_refusal es p → Refuses {T = T} (Err r) (insert_refusal es p)
refused_so T es p r is = refusal_kinds T (is_root p || is_some (lookup es p)) (not (is_directory_or_root es (parent p))) (nat_le most_entries (length es)) r is
