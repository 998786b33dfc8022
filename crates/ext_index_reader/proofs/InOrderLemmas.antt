-- Homes in lists and a map, seen as one list in order: what is found there, and how one more comes in.
use Rattle.std.proofs.Common.{◌≡◌, ℕ, Bool, true, false, cond, [], ◌∷◌, ◌++◌, length, Option, Some, None, refl, sym, ap, ◌∙◌, subst, arith}
use Rattle.std.specs.Prelude.{IfSome, MatchBool}
use Rattle.std.specs.BTreeMap.{insert_entry, is_at}
use Rattle.std.specs.FinMap.{entries_sorted, find, from_entries, get-entries, get-from_entries, len-empty, len-entries, put}
use Rattle.std.specs.FinMap.Entries.{by_order, find-put, find_tied, is_sorted-put, same_entries}
use Rattle.std.specs.Map.{lookup}
use Rattle.std.specs.Ordering.{eq_by_cmp, match_ordering}
use Rattle.std.specs.declared.cmp.Ordering.TheVariants.{Less, Equal, Greater}
use Rattle.ext_text.proofs.ForCallers.{is_equal}
use Rattle.ext_tree.proofs.ForCallers.{find-join}
use Rattle.ext_tree.specs.declared.stamp.Stamp.{Stamp}
use Rattle.ext_index_lines.specs.declared.homed.Homed.{Homed}
use Rattle.ext_index_reader.specs.Homes.{FileAgrees, IsOrNone, Stamps, home_cmp, in_order, key_of, noted_file, stamp_at}
use Rattle.ext_index_reader.proofs.StampLemmas.{key_exact}
use Rattle.ext_index_reader.proofs.HomeListLemmas.{first_of, first_put, home_total, none_first, second_put}

-- one search is the other
pub looked_up : (q : ℕ × ℕ) (es : Stamps) → lookup (is_at (home_cmp q)) es ≡ find home_cmp q es
looked_up q [] = refl
looked_up q (e ∷ es) = ap (cond (eq_by_cmp home_cmp q e.0) (Some e.1)) (looked_up q es)

-- and one entry comes in as the other
pub put_in : (k : ℕ × ℕ) (v : Stamp) (es : Stamps) → put home_cmp k v es ≡ insert_entry home_cmp es k v
put_in k v [] = refl
put_in k v (e ∷ es) =
    elim (home_cmp k e.0) as (λ o. by_order o ((k, v) ∷ e ∷ es) ((e.0, v) ∷ es) (e ∷ put home_cmp k v es) ≡ match_ordering o ((k, v) ∷ e ∷ es) ((e.0, v) ∷ es) (e ∷ insert_entry home_cmp es k v)) [
      | Less ↦ refl
      | Equal ↦ refl
      | Greater ↦ ap (λ rest. e ∷ rest) (put_in k v es)
    ]

pub found : (q : ℕ × ℕ) (first second : Stamps) → find home_cmp q (in_order first second) ≡ first_of (find home_cmp q first) (find home_cmp q second)
found q first second =
    sym (get-entries (from_entries (first ++ second)) q) ∙ get-from_entries home_total (first ++ second) q ∙ find-join home_cmp q first second

pub stamp_found : (q : ℕ × ℕ) (first second : Stamps) → lookup (is_at (home_cmp q)) (in_order first second) ≡ first_of (find home_cmp q first) (find home_cmp q second)
stamp_found q first second = looked_up q (in_order first second) ∙ found q first second

-- where the home is not seen, the first list has it not
pub lacking_first : (k : ℕ × ℕ) (first second seen : Stamps) → in_order first second ≡ seen → lookup (is_at (home_cmp k)) seen ≡ None → find home_cmp k first ≡ None
lacking_first k first second seen is none = none_first _ _ (sym (stamp_found k first second) ∙ ap (lookup (is_at (home_cmp k))) is ∙ none)

-- two lists in order in which the same is found are one
same_found : (k : ℕ × ℕ) (v : Stamp) (xs ys first second : Stamps) → ((q : ℕ × ℕ) → find home_cmp q (in_order first second) ≡ cond (eq_by_cmp home_cmp q k) (Some v) (find home_cmp q (in_order xs ys))) → in_order first second ≡ insert_entry home_cmp (in_order xs ys) k v
same_found k v xs ys first second is =
    same_entries home_cmp home_total key_exact (in_order first second) (put home_cmp k v (in_order xs ys))
    (entries_sorted (from_entries (first ++ second))) (is_sorted-put home_cmp home_total k v (in_order xs ys) (entries_sorted (from_entries (xs ++ ys))))
    (λ q. is q ∙ sym (find-put home_cmp home_total q k v (in_order xs ys)))
    ∙ put_in k v (in_order xs ys)

-- a home that comes into the first list
pub in_first : (k : ℕ × ℕ) (v : Stamp) (first new second : Stamps) → ((q : ℕ × ℕ) → find home_cmp q new ≡ cond (eq_by_cmp home_cmp q k) (Some v) (find home_cmp q first)) → in_order new second ≡ insert_entry home_cmp (in_order first second) k v
in_first k v first new second is =
    same_found k v first second new second
    (λ q. found q new second
    ∙ ap (λ x. first_of x (find home_cmp q second)) (is q)
    ∙ first_put (eq_by_cmp home_cmp q k) v (find home_cmp q first) (find home_cmp q second)
    ∙ ap (cond (eq_by_cmp home_cmp q k) (Some v)) (sym (found q first second)))

-- a home that the first list lacks and that comes into the second
pub in_second : (k : ℕ × ℕ) (v : Stamp) (first second : Stamps) → find home_cmp k first ≡ None → in_order first (insert_entry home_cmp second k v) ≡ insert_entry home_cmp (in_order first second) k v
in_second k v first second none =
    same_found k v first second first (insert_entry home_cmp second k v)
    (λ q. found q first (insert_entry home_cmp second k v)
    ∙ ap (λ es. first_of (find home_cmp q first) (find home_cmp q es)) (sym (put_in k v second))
    ∙ ap (first_of (find home_cmp q first)) (find-put home_cmp home_total q k v second)
    ∙ second_put (eq_by_cmp home_cmp q k) v (find home_cmp q first) (find home_cmp q second) (λ tied. sym (find_tied home_cmp home_total q k (is_equal _ tied) first) ∙ none)
    ∙ ap (cond (eq_by_cmp home_cmp q k) (Some v)) (sym (found q first second)))

tied_found : (b : Bool) (v : Stamp) (x : Option Stamp) → (b ≡ true → x ≡ Some v) → x ≡ cond b (Some v) x
tied_found true v x is = is refl
tied_found false v x is = refl

-- a home that has the stamp already changes nothing
pub in_already : (k : ℕ × ℕ) (v : Stamp) (first second : Stamps) → lookup (is_at (home_cmp k)) (in_order first second) ≡ Some v → in_order first second ≡ insert_entry home_cmp (in_order first second) k v
in_already k v first second has =
    same_found k v first second first second
    (λ q. tied_found (eq_by_cmp home_cmp q k) v (find home_cmp q (in_order first second))
    (λ tied. sym (find_tied home_cmp home_total q k (is_equal _ tied) (in_order first second)) ∙ sym (looked_up k (in_order first second)) ∙ has))

nothing : (es : Stamps) → length es ≡ 0 → es ≡ []
nothing [] none = refl
nothing (e ∷ es) none = absurd (omega arith)

-- no homes are seen as none
pub none_in_order : in_order [] [] ≡ []
none_in_order = nothing (in_order [] []) (sym (len-entries (from_entries [])) ∙ len-empty home_cmp Stamp)

-- what is found in the first list, or else in the second
pub first_found : (q : ℕ × ℕ) (first second : Stamps) (v : Stamp) → Some v ≡ find home_cmp q first → Some v ≡ lookup (is_at (home_cmp q)) (in_order first second)
first_found q first second v is = ap (λ a. first_of a (find home_cmp q second)) is ∙ sym (stamp_found q first second)

pub second_found : (q : ℕ × ℕ) (first second : Stamps) (r : Option Stamp) → None ≡ find home_cmp q first → r ≡ lookup (is_at (home_cmp q)) second → r ≡ lookup (is_at (home_cmp q)) (in_order first second)
second_found q first second r none is = is ∙ looked_up q second ∙ ap (λ a. first_of a (find home_cmp q second)) none ∙ sym (stamp_found q first second)

-- a home that is found may be noted again
pub again : (q : ℕ × ℕ) (first second : Stamps) (r : Option Stamp) → r ≡ lookup (is_at (home_cmp q)) (in_order first second) → IfSome r (λ v. in_order first second ≡ insert_entry home_cmp (in_order first second) q v)
again q first second None is = tt
again q first second (Some v) is = in_already q v first second (sym is)

-- a file agrees with what is found at its home
pub agrees : (stamps : Stamps) (file : Homed) (other : Stamp) (r : Option Stamp) (same : Bool) → r ≡ stamp_at stamps file.home → IfSome r (λ v. stamps ≡ insert_entry home_cmp stamps (key_of file.home) v) → r ≡ Some other → MatchBool same (other ≡ file.stamp) (¬ (other ≡ file.stamp))
    → MatchBool same (FileAgrees stamps file × (stamps ≡ noted_file stamps file)) (¬ FileAgrees stamps file)
agrees stamps file other r true found_is noted_is is equal =
    (subst (λ o. IsOrNone o file.stamp) (sym is ∙ found_is) equal, subst (λ o. IfSome o (λ v. stamps ≡ insert_entry home_cmp stamps (key_of file.home) v)) is noted_is ∙ ap (insert_entry home_cmp stamps (key_of file.home)) equal)
agrees stamps file other r false found_is noted_is is differs = λ agreed. differs (subst (λ o. IsOrNone o file.stamp) (sym found_is ∙ is) agreed)
