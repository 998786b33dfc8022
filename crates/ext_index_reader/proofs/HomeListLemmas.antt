-- Lists of homes, each in order: what is found in them, and how one more home comes in.
use Rattle.std.proofs.Common.{◌≡◌, ℕ, zero, suc, ◌+◌, ◌<◌, Bool, true, false, cond, List, [], ◌∷◌, ◌++◌, length, drop, get_or, set, append-nil, append_assoc, Option, Some, None, is_some, refl, sym, ap, ◌∙◌, subst, arith}
use Rattle.std.proofs.lemmas.Bool.{true≢false}
use Rattle.std.proofs.lemmas.Float.{T_from_true}
use Rattle.std.proofs.lemmas.List.{drop_more}
use Rattle.std.proofs.lemmas.List.Edits.{insert_end}
use Rattle.std.proofs.lemmas.Option.{slice_get_read}
use Rattle.std.specs.Prelude.{slice_get, IfSome, IsTrue, OnErr, OnOk, Result, Ok, Err, Vec}
use Rattle.std.specs.Cmp.{IsTotalOrder, nat_cmp_total, on_total, then_total}
use Rattle.std.specs.FinMap.{find, is_sorted, put}
use Rattle.std.specs.FinMap.Entries.{find-append, find_tied, is_sorted-put}
use Rattle.std.specs.List.{AllByRecursion, insert}
use Rattle.std.specs.Ordering.{eq_by_cmp}
use Rattle.ext_text.proofs.ForCallers.{is_equal, true_from_T}
use Rattle.ext_tree.specs.InsertionPoint.{insertion_point}
use Rattle.ext_tree.proofs.ForCallers.{find-join, find_here, insert_here}
use Rattle.ext_tree.specs.declared.stamp.Stamp.{Stamp}
use Rattle.ext_index_reader.specs.Homes.{Stamps, home_cmp}
use Rattle.ext_index_reader.specs.HomeLists.{AreSorted, IsAtEnd, IsSorted, IsWithHome, all_of}

pub home_total : IsTotalOrder home_cmp
home_total = then_total (on_total (λ (a : ℕ × ℕ). a.0) nat_cmp_total) (on_total (λ (a : ℕ × ℕ). a.1) nat_cmp_total)

-- what is found in the first of two lists, or else in the second
abbrev pub first_of : Option Stamp → Option Stamp → Option Stamp
first_of a b = cond (is_some a) a b

-- where nothing is found, the first has nothing
pub none_first : (a b : Option Stamp) → first_of a b ≡ None → a ≡ None
none_first None b none = refl
none_first (Some x) b none = absurd (true≢false (ap is_some none))

-- with a home in the first of two lists, or in the second where the first lacks it
pub first_put : (b : Bool) (v : Stamp) (x y : Option Stamp) → first_of (cond b (Some v) x) y ≡ cond b (Some v) (first_of x y)
first_put true v x y = refl
first_put false v x y = refl

pub second_put : (b : Bool) (v : Stamp) (x y : Option Stamp) → (b ≡ true → x ≡ None) → first_of x (cond b (Some v) y) ≡ cond b (Some v) (first_of x y)
second_put true v x y none = ap (λ a. first_of a (Some v)) (none refl)
second_put false v x y none = refl

-- lists one after another: what is found in them
pub join_first : (q : ℕ × ℕ) (first second : Stamps) (v : Stamp) → Some v ≡ find home_cmp q first → Some v ≡ find home_cmp q (first ++ second)
join_first q first second v is = ap (λ a. first_of a (find home_cmp q second)) is ∙ sym (find-join home_cmp q first second)

pub join_second : (q : ℕ × ℕ) (first second : Stamps) (r : Option Stamp) → None ≡ find home_cmp q first → r ≡ find home_cmp q second → r ≡ find home_cmp q (first ++ second)
join_second q first second r none is = is ∙ ap (λ a. first_of a (find home_cmp q second)) none ∙ sym (find-join home_cmp q first second)

-- two lists one after another lack what both of them lack
none_both : (k : ℕ × ℕ) (first second : Stamps) → find home_cmp k (first ++ second) ≡ None → (find home_cmp k first ≡ None) × (find home_cmp k second ≡ None)
none_both k first second none =
    let lacks : find home_cmp k first ≡ None = none_first _ _ (sym (find-join home_cmp k first second) ∙ none) in
    (lacks, ap (λ a. first_of a (find home_cmp k second)) (sym lacks) ∙ sym (find-join home_cmp k first second) ∙ none)

-- a home that both lack, added to the first
with_first : (k : ℕ × ℕ) (v : Stamp) (first new second : Stamps) → find home_cmp k (first ++ second) ≡ None → new ≡ first ++ (k, v) ∷ []
    → (q : ℕ × ℕ) → find home_cmp q (new ++ second) ≡ cond (eq_by_cmp home_cmp q k) (Some v) (find home_cmp q (first ++ second))
with_first k v first new second none is q =
    ap (λ l. find home_cmp q (l ++ second)) is ∙ find-join home_cmp q (first ++ (k, v) ∷ []) second
    ∙ ap (λ x. first_of x (find home_cmp q second)) (find-append home_cmp home_total first k v q (none_both k first second none).0)
    ∙ first_put (eq_by_cmp home_cmp q k) v (find home_cmp q first) (find home_cmp q second)
    ∙ ap (cond (eq_by_cmp home_cmp q k) (Some v)) (sym (find-join home_cmp q first second))

-- or to the second
with_second : (k : ℕ × ℕ) (v : Stamp) (first second new : Stamps) → find home_cmp k first ≡ None → ((q : ℕ × ℕ) → find home_cmp q new ≡ cond (eq_by_cmp home_cmp q k) (Some v) (find home_cmp q second))
    → (q : ℕ × ℕ) → find home_cmp q (first ++ new) ≡ cond (eq_by_cmp home_cmp q k) (Some v) (find home_cmp q (first ++ second))
with_second k v first second new none is q =
    find-join home_cmp q first new
    ∙ ap (first_of (find home_cmp q first)) (is q)
    ∙ second_put (eq_by_cmp home_cmp q k) v (find home_cmp q first) (find home_cmp q second) (λ tied. sym (find_tied home_cmp home_total q k (is_equal _ tied) first) ∙ none)
    ∙ ap (cond (eq_by_cmp home_cmp q k) (Some v)) (sym (find-join home_cmp q first second))

-- a list in order stays so with a home at its end that comes after all of it
still_sorted : (k : ℕ × ℕ) (v : Stamp) (es new : Stamps) → IsTrue (is_sorted home_cmp es) → find home_cmp k es ≡ None → insertion_point home_cmp k es ≡ length es → new ≡ es ++ (k, v) ∷ [] → IsTrue (is_sorted home_cmp new)
still_sorted k v es new sorted none last is =
    let put_is : put home_cmp k v es ≡ new = sym (insert_here home_cmp home_total k v es none) ∙ ap (λ i. insert es i (k, v)) last ∙ insert_end es (k, v) ∙ sym is in
    subst (λ l. IsTrue (is_sorted home_cmp l)) put_is (true_from_T _ (is_sorted-put home_cmp home_total k v es (T_from_true _ sorted)))

-- the stamp of a home where this stands at its insertion point
abbrev pub stamp_in : ℕ × ℕ → Option ((ℕ × ℕ) × Stamp) → Option Stamp
stamp_in k None = None
stamp_in k (Some e) = cond (eq_by_cmp home_cmp k e.0) (Some e.1) None

pub found_there : (k : ℕ × ℕ) (es : Stamps) (i : ℕ) (o : Option ((ℕ × ℕ) × Stamp)) → IsTrue (is_sorted home_cmp es) → i ≡ insertion_point home_cmp k es → slice_get es i ≡ o → stamp_in k o ≡ find home_cmp k es
found_there k es i o sorted is at = sym (find_here home_cmp home_total k es sorted ∙ ap (λ n. stamp_in k (slice_get es n)) (sym is) ∙ ap (stamp_in k) at)

module _ {Z : Type 0} where
  all_push : (lists : List (Vec ((ℕ × ℕ) × Stamp) Z)) (list : Vec ((ℕ × ℕ) × Stamp) Z) → all_of (lists ++ list ∷ []) ≡ all_of lists ++ list.items
  all_push [] list = append-nil list.items
  all_push (l ∷ lists) list = ap (λ more. l.items ++ more) (all_push lists list) ∙ sym (append_assoc l.items (all_of lists) list.items)

  -- lists with a list of one home more
  pub with_list : (k : ℕ × ℕ) (v : Stamp) (lists new : List (Vec ((ℕ × ℕ) × Stamp) Z)) (list : Vec ((ℕ × ℕ) × Stamp) Z) → find home_cmp k (all_of lists) ≡ None → new ≡ lists ++ list ∷ [] → list.items ≡ (k, v) ∷ [] → IsWithHome lists new k v
  with_list k v lists new list none is one q =
      ap (λ l. find home_cmp q (all_of l)) is ∙ ap (find home_cmp q) (all_push lists list ∙ ap (λ l. all_of lists ++ l) one)
      ∙ find-append home_cmp home_total (all_of lists) k v q none

  -- lists of which one has one home more at its end
  pub with_home : (k : ℕ × ℕ) (v : Stamp) (lists : List (Vec ((ℕ × ℕ) × Stamp) Z)) (i : ℕ) (list new : Vec ((ℕ × ℕ) × Stamp) Z) → i < length lists → list ≡ get_or lists i list → find home_cmp k (all_of lists) ≡ None → new.items ≡ list.items ++ (k, v) ∷ [] → IsWithHome lists (set lists i new) k v
  with_home k v [] i list new lt is none more = absurd (omega arith)
  with_home k v (l ∷ lists) zero list new lt is none more =
      with_first k v l.items new.items (all_of lists) none (more ∙ ap (λ (x : Vec ((ℕ × ℕ) × Stamp) Z). x.items ++ (k, v) ∷ []) is)
  with_home k v (l ∷ lists) (suc i) list new lt is none more =
      let parts = none_both k l.items (all_of lists) none in
      with_second k v l.items (all_of lists) (all_of (set lists i new)) parts.0 (with_home k v lists i list new (omega arith) is parts.1 more)

  -- each of them lacks what all lack
  none_at : (k : ℕ × ℕ) (lists : List (Vec ((ℕ × ℕ) × Stamp) Z)) (i : ℕ) (list : Vec ((ℕ × ℕ) × Stamp) Z) → i < length lists → list ≡ get_or lists i list → find home_cmp k (all_of lists) ≡ None → find home_cmp k list.items ≡ None
  none_at k [] i list lt is none = absurd (omega arith)
  none_at k (l ∷ lists) zero list lt is none = ap (λ (x : Vec ((ℕ × ℕ) × Stamp) Z). find home_cmp k x.items) is ∙ (none_both k l.items (all_of lists) none).0
  none_at k (l ∷ lists) (suc i) list lt is none = none_at k lists i list (omega arith) is (none_both k l.items (all_of lists) none).1

  -- the lists are in order where one of them is another one in order
  sorted_set : (lists : List (Vec ((ℕ × ℕ) × Stamp) Z)) (i : ℕ) (new : Vec ((ℕ × ℕ) × Stamp) Z) → AreSorted lists → IsSorted new → AreSorted (set lists i new)
  sorted_set [] i new all one = tt
  sorted_set (l ∷ lists) zero new all one = (one, all.1)
  sorted_set (l ∷ lists) (suc i) new all one = (all.0, sorted_set lists i new all.1 one)

  all_rest : (n : ℕ) (lists : List (Vec ((ℕ × ℕ) × Stamp) Z)) → AllByRecursion IsSorted lists → AllByRecursion IsSorted (drop n lists)
  all_rest zero lists all = all
  all_rest (suc n) [] all = tt
  all_rest (suc n) (l ∷ lists) all = all_rest n lists all.1

  -- one of the lists is in order
  pub sorted_at : (i : ℕ) (lists : List (Vec ((ℕ × ℕ) × Stamp) Z)) (list : Vec ((ℕ × ℕ) × Stamp) Z) → i < length lists → list ≡ get_or lists i list → AllByRecursion IsSorted lists → IsSorted list
  sorted_at i lists list lt is all =
      let split : drop i lists ≡ list ∷ drop (i + 1) lists = drop_more lists i list lt ∙ ap (λ x. x ∷ drop (i + 1) lists) (sym is) in
      (subst (AllByRecursion IsSorted) split (all_rest i lists all)).0

  -- the home comes after all of the list at the index
  pub at_end : (k : ℕ × ℕ) (lists : List (Vec ((ℕ × ℕ) × Stamp) Z)) (i : ℕ) (list : Vec ((ℕ × ℕ) × Stamp) Z) → i < length lists → list ≡ get_or lists i list → insertion_point home_cmp k list.items ≡ length list.items → IsAtEnd k lists i
  at_end k lists i list lt is last =
      (lt, subst (λ o. IfSome o (λ l. insertion_point home_cmp k l.items ≡ length l.items)) (sym (slice_get_read lists (length lists) i list refl lt is)) last)

  pub last_at : (k : ℕ × ℕ) (lists : List (Vec ((ℕ × ℕ) × Stamp) Z)) (i : ℕ) (list : Vec ((ℕ × ℕ) × Stamp) Z) → list ≡ get_or lists i list → IsAtEnd k lists i → insertion_point home_cmp k list.items ≡ length list.items
  last_at k lists i list is at = subst (λ o. IfSome o (λ l. insertion_point home_cmp k l.items ≡ length l.items)) (slice_get_read lists (length lists) i list refl at.0 is) at.1

  -- lists in order, of which one was to have one home more at its end
  pub pushed_sorted : {E : Type 0} (r : Result (Unit {0}) E) (k : ℕ × ℕ) (v : Stamp) (lists : List (Vec ((ℕ × ℕ) × Stamp) Z)) (i : ℕ) (list new : Vec ((ℕ × ℕ) × Stamp) Z)
      → list ≡ get_or lists i list → IsAtEnd k lists i → find home_cmp k (all_of lists) ≡ None → AreSorted lists → OnOk r (new.items ≡ list.items ++ (k, v) ∷ []) → OnErr r (new.items ≡ list.items) → AreSorted (set lists i new)
  pushed_sorted (Ok u) k v lists i list new is at none sorted more same =
      sorted_set lists i new sorted (still_sorted k v list.items new.items (sorted_at i lists list at.0 is sorted) (none_at k lists i list at.0 is none) (last_at k lists i list is at) more)
  pushed_sorted (Err e) k v lists i list new is at none sorted more same =
      sorted_set lists i new sorted (subst (λ l. IsTrue (is_sorted home_cmp l)) (sym same) (sorted_at i lists list at.0 is sorted))

  -- the search goes on past a list that lacks the home
  pub found_later : (q : ℕ × ℕ) (i : ℕ) (lists : List (Vec ((ℕ × ℕ) × Stamp) Z)) (list : Vec ((ℕ × ℕ) × Stamp) Z) → i < length lists → list ≡ get_or lists i list → None ≡ find home_cmp q list.items → find home_cmp q (all_of lists) ≡ find home_cmp q (all_of (drop i lists)) → find home_cmp q (all_of lists) ≡ find home_cmp q (all_of (drop (i + 1) lists))
  found_later q i lists list lt is none so_far =
      let split : drop i lists ≡ list ∷ drop (i + 1) lists = drop_more lists i list lt ∙ ap (λ x. x ∷ drop (i + 1) lists) (sym is) in
      so_far ∙ ap (λ l. find home_cmp q (all_of l)) split ∙ sym (join_second q list.items (all_of (drop (i + 1) lists)) (find home_cmp q (all_of (drop (i + 1) lists))) none refl)

  -- and ends at one that has it
  pub found_now : (q : ℕ × ℕ) (i : ℕ) (lists : List (Vec ((ℕ × ℕ) × Stamp) Z)) (list : Vec ((ℕ × ℕ) × Stamp) Z) (r : Option Stamp) → i < length lists → list ≡ get_or lists i list → is_some r ≡ true → r ≡ find home_cmp q list.items → find home_cmp q (all_of lists) ≡ find home_cmp q (all_of (drop i lists)) → r ≡ find home_cmp q (all_of lists)
  found_now q i lists list None lt is some found_is so_far = absurd (true≢false (sym some))
  found_now q i lists list (Some v) lt is some found_is so_far =
      let split : drop i lists ≡ list ∷ drop (i + 1) lists = drop_more lists i list lt ∙ ap (λ x. x ∷ drop (i + 1) lists) (sym is) in
      join_first q list.items (all_of (drop (i + 1) lists)) v found_is ∙ sym (so_far ∙ ap (λ l. find home_cmp q (all_of l)) split)

-- what is not there is nothing
pub none_of : (r : Option Stamp) → is_some r ≡ false → None ≡ r
none_of None none = refl
none_of (Some v) none = absurd (true≢false none)
