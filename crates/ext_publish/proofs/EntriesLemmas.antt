-- The entries of a tree up to one, and with it.
use Rattle.std.proofs.Common.{◌≡◌, ◌⊎◌, ℕ, ◌+◌, ◌<◌, Bool, true, false, cond, List, [], ◌∷◌, ◌++◌, length, take, drop, get_or, Option, Some, None, refl, sym, ap, ◌∙◌, subst, inl, inr, arith, add-one}
use Rattle.std.specs.Option.{is_some}
use Rattle.std.specs.Ordering.{eq_by_cmp}
use Rattle.std.proofs.lemmas.List.{take-append-drop}
use Rattle.std.proofs.lemmas.Option.{none-some, same_Some}
use Rattle.std.proofs.Math.Seq.{take-suc}
use Rattle.std.proofs.lemmas.Float.{T_from_true}
use Rattle.std.specs.Prelude.{IsTrue}
use Rattle.std.specs.FinMap.{is_sorted}
use Rattle.ext_attributes.specs.Attributes.{OfFile}
use Rattle.ext_text.specs.Path.{path_cmp}
use Rattle.ext_text.specs.Order.{paths_total}
use Rattle.ext_text.proofs.ForCallers.{same_path, tied_path}
use Rattle.ext_tree.specs.Tree.{Entries, IsTree, lookup}
use Rattle.ext_tree.specs.declared.entry.Entry.{Entry}
use Rattle.ext_tree.specs.declared.entry.Entry.TheVariants as entries
use Rattle.ext_tree.proofs.ForCallers.{find-join, find_above, prefix_below}
use Rattle.ext_host.specs.Held.{HeldFile}
use Rattle.ext_published.specs.Payload.{HasHeldFileAt}

one_more : {X : Type 0} (xs : List X) (i : ℕ) (x : X) → i < length xs → x ≡ get_or xs i x → take (i + 1) xs ≡ take i xs ++ x ∷ []
one_more xs i x inside is = ap (λ n. take n xs) (add-one i) ∙ take-suc xs i x inside ∙ ap (λ y. take i xs ++ y ∷ []) (sym is)

first_stays : {A : Type 0} (o p : Option A) (x : A) → o ≡ Some x → cond (is_some o) o p ≡ Some x
first_stays None p x is = absurd (none-some x is)
first_stays (Some y) p x is = is

first_or : {A : Type 0} (o p : Option A) (x : A) → cond (is_some o) o p ≡ Some x → (o ≡ Some x) ⊎ (p ≡ Some x)
first_or None p x is = inr is
first_or (Some y) p x is = inl is

-- a file of the first entries is one of all
pub has_join : (es fs : Entries HeldFile) (q : List (List ℕ)) (held : HeldFile) → HasHeldFileAt es q held → HasHeldFileAt (es ++ fs) q held
has_join es fs q held has = record { attributes = has.attributes; stands = find-join path_cmp q es fs ∙ first_stays (lookup es q) (lookup fs q) (entries.File has.attributes held) has.stands }

pub has_whole : (es : Entries HeldFile) (i : ℕ) (q : List (List ℕ)) (held : HeldFile) → HasHeldFileAt (take i es) q held → HasHeldFileAt es q held
has_whole es i q held has = subst (λ l. HasHeldFileAt l q held) (take-append-drop i es) (has_join (take i es) (drop i es) q held has)

pub has_more : (es : Entries HeldFile) (i : ℕ) (x : List (List ℕ) × Entry HeldFile) (q : List (List ℕ)) (held : HeldFile) → i < length es → x ≡ get_or es i x → HasHeldFileAt (take i es) q held → HasHeldFileAt (take (i + 1) es) q held
has_more es i x q held inside is has = subst (λ l. HasHeldFileAt l q held) (sym (one_more es i x inside is)) (has_join (take i es) (x ∷ []) q held has)

lone_file : (x : List (List ℕ) × Entry HeldFile) (q : List (List ℕ)) (attributes : OfFile) (held : HeldFile) (b : Bool) → eq_by_cmp path_cmp q x.0 ≡ b → cond b (Some x.1) None ≡ Some (entries.File attributes held) → (q ≡ x.0) × (x.1 ≡ entries.File attributes held)
lone_file x q attributes held true tied is = (same_path q x.0 tied, same_Some x.1 (entries.File attributes held) is)
lone_file x q attributes held false out is = absurd (none-some (entries.File attributes held) is)

-- a file of the entries with one more is one of those before, or that one
pub has_split : (es : Entries HeldFile) (i : ℕ) (x : List (List ℕ) × Entry HeldFile) (q : List (List ℕ)) (held : HeldFile) → i < length es → x ≡ get_or es i x → HasHeldFileAt (take (i + 1) es) q held
    → HasHeldFileAt (take i es) q held ⊎ ((q ≡ x.0) × ((attributes : OfFile) × (x.1 ≡ entries.File attributes held)))
has_split es i x q held inside is has = side (first_or (lookup (take i es) q) (lookup (x ∷ []) q) (entries.File has.attributes held) (sym (find-join path_cmp q (take i es) (x ∷ [])) ∙ ap (λ l. lookup l q) (sym (one_more es i x inside is)) ∙ has.stands))
  where
    side : (lookup (take i es) q ≡ Some (entries.File has.attributes held)) ⊎ (lookup (x ∷ []) q ≡ Some (entries.File has.attributes held)) → HasHeldFileAt (take i es) q held ⊎ ((q ≡ x.0) × ((attributes : OfFile) × (x.1 ≡ entries.File attributes held)))
    side (inl before) = inl (record { attributes = has.attributes; stands = before })
    side (inr here) =
        let one = lone_file x q has.attributes held (eq_by_cmp path_cmp q x.0) refl here in
        inr (one.0, (has.attributes, one.1))

-- the entry at an index has not come before it, and stands in the tree
pub not_before : (es : Entries HeldFile) (i : ℕ) (x : List (List ℕ) × Entry HeldFile) → IsTree es → i < length es → x ≡ get_or es i x → lookup (take i es) x.0 ≡ None
not_before es i x tree inside is =
    find_above path_cmp paths_total x.0 (take i es)
    (prefix_below path_cmp (take i es) (drop (i + 1) es) x.0 x.1 (T_from_true _ (subst (λ l. IsTrue (is_sorted path_cmp l)) (sym (split i es x inside is)) tree.sorted)))
  where
    split : (i : ℕ) (es : Entries HeldFile) (x : List (List ℕ) × Entry HeldFile) → i < length es → x ≡ get_or es i x → take i es ++ (x.0, x.1) ∷ drop (i + 1) es ≡ es
    split i es x inside is =
        sym (Rattle.std.proofs.Common.append_assoc (take i es) (x ∷ []) (drop (i + 1) es)) ∙ ap (λ l. l ++ drop (i + 1) es) (sym (one_more es i x inside is)) ∙ take-append-drop (i + 1) es

-- and is found up to it, and in the whole tree
pub found_now : (es : Entries HeldFile) (i : ℕ) (x : List (List ℕ) × Entry HeldFile) → IsTree es → i < length es → x ≡ get_or es i x → lookup (take (i + 1) es) x.0 ≡ Some x.1
found_now es i x tree inside is =
    ap (λ l. lookup l x.0) (one_more es i x inside is) ∙ find-join path_cmp x.0 (take i es) (x ∷ [])
    ∙ ap (λ o. cond (is_some o) o (lookup (x ∷ []) x.0)) (not_before es i x tree inside is) ∙ ap (λ b. cond b (Some x.1) None) (tied_path x.0 x.0 refl)

pub found_there : (es : Entries HeldFile) (i : ℕ) (x : List (List ℕ) × Entry HeldFile) → IsTree es → i < length es → x ≡ get_or es i x → lookup es x.0 ≡ Some x.1
found_there es i x tree inside is =
    sym (ap (λ l. lookup l x.0) (take-append-drop (i + 1) es)) ∙ find-join path_cmp x.0 (take (i + 1) es) (drop (i + 1) es)
    ∙ first_stays (lookup (take (i + 1) es) x.0) (lookup (drop (i + 1) es) x.0) x.1 (found_now es i x tree inside is)

-- a file at an index stands up to it, and in the whole tree
pub stands_now : (es : Entries HeldFile) (i : ℕ) (x : List (List ℕ) × Entry HeldFile) (attributes : OfFile) (held : HeldFile) → IsTree es → i < length es → x ≡ get_or es i x → x.1 ≡ entries.File attributes held → HasHeldFileAt (take (i + 1) es) x.0 held
stands_now es i x attributes held tree inside is file = record { attributes = attributes; stands = found_now es i x tree inside is ∙ ap Some file }

pub stands_there : (es : Entries HeldFile) (i : ℕ) (x : List (List ℕ) × Entry HeldFile) (attributes : OfFile) (held : HeldFile) → IsTree es → i < length es → x ≡ get_or es i x → x.1 ≡ entries.File attributes held → HasHeldFileAt es x.0 held
stands_there es i x attributes held tree inside is file = record { attributes = attributes; stands = found_there es i x tree inside is ∙ ap Some file }
