-- The laws of changes.
use Rattle.std.proofs.Common.{◌≡◌, ◌≢◌, ⊎_elim, ℕ, true, false, cond, ◌&&◌, List, [], ◌∷◌, Option, Some, None, refl, sym, ap, ◌∙◌, subst}
use Rattle.std.specs.Option.{option_map, unwrap_or}
use Rattle.std.specs.Ordering.{is_lt, eq_by_cmp}
use Rattle.std.specs.FinMap.{is_sorted}
use Rattle.std.specs.FinMap.Entries.{below_all, find-where_key, is_sorted-where_key, same_entries, where_key}
use Rattle.std.proofs.lemmas.Float.{T_from_true}
use Rattle.ext_text.specs.Order.{paths_exact, paths_total}
use Rattle.ext_text.specs.Path.{IsPath, path_cmp, is_prefix}
use Rattle.ext_text.proofs.ForCallers.{true_from_T}
use Rattle.ext_tree.specs.Tree.{Entries, lookup}
use Rattle.ext_tree.specs.declared.entry.Entry.{Entry}
use Rattle.ext_tree.specs.declared.entry.Entry.TheVariants.{Dir, Opaque, File, Link, Hide}
use Rattle.ext_tree.specs.declared.stamp.Stamp.{Stamp}
use Rattle.ext_tree.proofs.ForCallers.{each_found, find_there}
use Rattle.ext_changes.specs.Changes.{Changes, DiffersBy, change_at, stamped, stamped_at}
use Rattle.ext_changes.specs.Laws.{BelowOfAll, EachDiffers, NoneOfEqual, NoneWhereAlike, OneList, OneListBelow, PathsOfTrees, TurnedTheOtherWay, all_turned, turned}
use Rattle.ext_changes.specs.declared.change.ChangeKind.{ChangeKind}
use Rattle.ext_changes.specs.declared.change.ChangeKind.TheVariants.{Added, Removed, Changed}
use Rattle.ext_changes.proofs.StepLemmas.{stands_in}

-- at one path

-- a difference is one
one_kind : (old new : Option (Entry Stamp)) (j k : Option ChangeKind) → DiffersBy old new j → DiffersBy old new k → j ≡ k
one_kind None None j k p q = p ∙ sym q
one_kind None (Some new) j k p q = p ∙ sym q
one_kind (Some old) None j k p q = p ∙ sym q
one_kind (Some old) (Some new) None None p q = refl
one_kind (Some old) (Some new) None (Some Added) p q = absurd q
one_kind (Some old) (Some new) None (Some Removed) p q = absurd q
one_kind (Some old) (Some new) None (Some Changed) p q = absurd (q p)
one_kind (Some old) (Some new) (Some Added) k p q = absurd p
one_kind (Some old) (Some new) (Some Removed) k p q = absurd p
one_kind (Some old) (Some new) (Some Changed) None p q = absurd (p q)
one_kind (Some old) (Some new) (Some Changed) (Some Added) p q = absurd q
one_kind (Some old) (Some new) (Some Changed) (Some Removed) p q = absurd q
one_kind (Some old) (Some new) (Some Changed) (Some Changed) p q = refl

-- without one what stands is the same
alike_from : (old new : Option (Entry Stamp)) → DiffersBy old new None → old ≡ new
alike_from None None p = refl
alike_from None (Some new) p = absurd (cc)
alike_from (Some old) None p = absurd (cc)
alike_from (Some old) (Some new) p = ap Some p

alike_to : (old new : Option (Entry Stamp)) → old ≡ new → DiffersBy old new None
alike_to None None same = refl
alike_to None (Some new) same = absurd (cc)
alike_to (Some old) None same = absurd (cc)
alike_to (Some old) (Some new) same = ap (λ x. unwrap_or x old) same

-- and with one it is not
differs : (old new : Option (Entry Stamp)) (kind : ChangeKind) → DiffersBy old new (Some kind) → old ≢ new
differs None None kind p same = absurd (cc)
differs None (Some new) kind p same = absurd (cc)
differs (Some old) None kind p same = absurd (cc)
differs (Some old) (Some new) Added p same = absurd p
differs (Some old) (Some new) Removed p same = absurd p
differs (Some old) (Some new) Changed p same = p (ap (λ x. unwrap_or x old) same)

turned_kind : (old new : Option (Entry Stamp)) (kind : Option ChangeKind) → DiffersBy old new kind → DiffersBy new old (option_map turned kind)
turned_kind None None kind p = ap (option_map turned) p
turned_kind None (Some new) kind p = ap (option_map turned) p
turned_kind (Some old) None kind p = ap (option_map turned) p
turned_kind (Some old) (Some new) None p = sym p
turned_kind (Some old) (Some new) (Some Added) p = absurd p
turned_kind (Some old) (Some new) (Some Removed) p = absurd p
turned_kind (Some old) (Some new) (Some Changed) p = λ same. p (sym same)

-- of lists

same_changes : (cs ds : Changes) → is_sorted path_cmp cs ≡ true → is_sorted path_cmp ds ≡ true → ((q : List (List ℕ)) → change_at cs q ≡ change_at ds q) → cs ≡ ds
same_changes cs ds first second same = same_entries path_cmp paths_total paths_exact cs ds (T_from_true _ first) (T_from_true _ second) same

below_turned : (k : List (List ℕ)) (cs : Changes) → below_all path_cmp k (all_turned cs) ≡ below_all path_cmp k cs
below_turned k [] = refl
below_turned k (c ∷ cs) = ap (λ b. is_lt (path_cmp k c.0) && b) (below_turned k cs)

sorted_turned : (cs : Changes) → is_sorted path_cmp (all_turned cs) ≡ is_sorted path_cmp cs
sorted_turned [] = refl
sorted_turned (c ∷ cs) = λ i. below_turned c.0 cs i && sorted_turned cs i

find_turned : (q : List (List ℕ)) (cs : Changes) → change_at (all_turned cs) q ≡ option_map turned (change_at cs q)
find_turned q [] = refl
find_turned q (c ∷ cs) =
    elim (eq_by_cmp path_cmp q c.0) as (λ b. cond b (Some (turned c.1)) (change_at (all_turned cs) q) ≡ option_map turned (cond b (Some c.1) (change_at cs q))) [
      | true ↦ refl
      | false ↦ find_turned q cs
    ]

find_below : (p q : List (List ℕ)) (cs : Changes) → change_at (where_key path_cmp (is_prefix p) cs) q ≡ cond (is_prefix p q) (change_at cs q) None
find_below p q cs = find-where_key path_cmp (is_prefix p) q (λ x tied. ap (is_prefix p) (sym (paths_exact q x tied))) cs

-- of files nothing but the stamp was kept
stamped_itself : (e : Entry Stamp) → stamped (λ s. s) e ≡ e
stamped_itself (Dir attributes) = refl
stamped_itself (Opaque attributes) = refl
stamped_itself (File attributes content) = refl
stamped_itself (Link owner target) = refl
stamped_itself Hide = refl

stamped_option : (o : Option (Entry Stamp)) → option_map (stamped (λ s. s)) o ≡ o
stamped_option None = refl
stamped_option (Some e) = ap Some (stamped_itself e)

-- the laws

pub one_list : {A B : Type 0} → OneList A B
one_list f g earlier later cs ds first second =
    same_changes cs ds first.sorted second.sorted (λ q. one_kind (stamped_at f earlier q) (stamped_at g later q) _ _ (first.each q) (second.each q))

pub one_list_below : {A B : Type 0} → OneListBelow A B
one_list_below f g prefix earlier later cs ds first second =
    same_changes cs ds first.sorted second.sorted (λ q.
    elim (is_prefix prefix q) as (λ b. is_prefix prefix q ≡ b → change_at cs q ≡ change_at ds q) [
      | true ↦ λ below. one_kind (stamped_at f earlier q) (stamped_at g later q) _ _ (first.each q below) (second.each q below)
      | false ↦ λ apart. first.elsewhere q apart ∙ sym (second.elsewhere q apart)
    ] refl)

pub none_where_alike : {A B : Type 0} → NoneWhereAlike A B
none_where_alike f g earlier later = (
  λ changes q. alike_from (stamped_at f earlier q) (stamped_at g later q) (changes.each q),
  λ same. record { sorted = refl; each = λ q. alike_to (stamped_at f earlier q) (stamped_at g later q) (same q) },
)

pub none_of_equal : NoneOfEqual
none_of_equal earlier later old new =
    let alike = none_where_alike (λ (s : Stamp). s) (λ (s : Stamp). s) earlier later in (
      λ changes. same_entries path_cmp paths_total paths_exact earlier later (T_from_true _ old.sorted) (T_from_true _ new.sorted) (λ q. sym (stamped_option (lookup earlier q)) ∙ alike.0 changes q ∙ stamped_option (lookup later q)),
      λ same. alike.1 (λ q. ap (λ (es : Entries Stamp). stamped_at (λ s. s) es q) same),
    )

pub each_differs : {A B : Type 0} → EachDiffers A B
each_differs f g earlier later changes place change are at =
    differs (stamped_at f earlier change.0) (stamped_at g later change.0) change.1
    (subst (DiffersBy (stamped_at f earlier change.0) (stamped_at g later change.0)) (find_there path_cmp paths_total changes place change are.sorted at) (are.each change.0))

pub turned_the_other_way : {A B : Type 0} → TurnedTheOtherWay A B
turned_the_other_way f g earlier later changes are = record {
  sorted = sorted_turned changes ∙ are.sorted;
  each = λ q. subst (DiffersBy (stamped_at g later q) (stamped_at f earlier q)) (sym (find_turned q changes)) (turned_kind (stamped_at f earlier q) (stamped_at g later q) (change_at changes q) (are.each q));
}

pub below_of_all : {A B : Type 0} → BelowOfAll A B
below_of_all f g prefix earlier later changes are = record {
  sorted = true_from_T _ (is_sorted-where_key path_cmp (is_prefix prefix) changes (T_from_true _ are.sorted));
  each = λ q below. subst (DiffersBy (stamped_at f earlier q) (stamped_at g later q)) (sym (find_below prefix q changes ∙ ap (λ b. cond b (change_at changes q) None) below)) (are.each q);
  elsewhere = λ q apart. find_below prefix q changes ∙ ap (λ b. cond b (change_at changes q) None) apart;
}

pub paths_of_trees : {A B : Type 0} → PathsOfTrees A B
paths_of_trees f g earlier later changes old new are =
    each_found path_cmp paths_total IsPath changes
    (λ q found. ⊎_elim (old.paths q) (new.paths q) (stands_in f g (lookup earlier q) (lookup later q) (change_at changes q) (are.each q) found))
