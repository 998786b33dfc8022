-- One more line after those that are merged.
use Rattle.std.proofs.Common.{◌≡◌, ◌≢◌, ℕ, suc, ◌+◌, ◌-◌, ◌<◌, Bool, true, false, cond, ltb, List, [], ◌∷◌, ◌++◌, length, map, get_or, Option, Some, None, refl, sym, ap, subst, ◌∙◌, arith}
use Rattle.std.specs.Prelude.{IsTrue, slice_get}
use Rattle.std.specs.FinMap.{find, is_sorted}
use Rattle.std.specs.List.{AllByRecursion, Any}
use Rattle.std.specs.List.Sorted.{IsSortedBy}
use Rattle.std.specs.Option.{option_map, option_or}
use Rattle.std.specs.Cmp.{tied_itself}
use Rattle.std.specs.Ordering.{is_eq, is_lt, ordering_reverse}
use Rattle.std.specs.declared.cmp.Ordering.TheVariants.{Less, Equal, Greater}
use Rattle.std.specs.Str.{bytes_eq}
use Rattle.std.proofs.lemmas.Bool.{ltb-false, ltb-true, true≢false}
use Rattle.std.proofs.lemmas.List.{map_push}
use Rattle.std.proofs.lemmas.List.Elements.{All-push, All-weaker, Contains-append_left}
use Rattle.std.proofs.lemmas.List.Quantifiers.{Any-push}
use Rattle.std.proofs.lemmas.Map.Text.{is_eq-slice_cmp}
use Rattle.std.proofs.lemmas.Option.{none-some, same_Some}
use Rattle.ext_lines.specs.ByteOrder.{bytes_cmp, bytes_exact, bytes_total}
use Rattle.ext_text.proofs.ForCallers.{is_equal}
use Rattle.ext_sums.specs.declared.merging.Numbered.{Numbered}
use Rattle.ext_sums.specs.declared.merging.Standing.TheVariants.{New, Same, Other}
use Rattle.ext_sums.specs.declared.sums.Listed.{Listed}
use Rattle.ext_sums.specs.Sums.{entries_of, listed_entry, said}
use Rattle.ext_sums.specs.Merging.{Agrees, AreByName, Differs, IsConflict, entries_in, least, numbered_entry, same_or_other, standing_of}
use Rattle.ext_sums.proofs.FoundLemmas.{below_last, find-join, find_above, find_last, found_again, found_last, found_stays, last_of, last_of-push, sorted_push}

-- so many lines are merged, and the last name of both is the same
pub record IsMergedSoFar (done : List Numbered) (listed : List Listed) (conflict : Option ℕ) : Type 0 where
  pub sorted : IsTrue (is_sorted bytes_cmp (entries_of listed))
  pub names : (name : List ℕ) → said (entries_of listed) name ≡ said (entries_in done) name
  pub last : option_map (λ l. l.name) (last_of listed) ≡ option_map (λ n. n.listed.name) (last_of done)
  pub least : IsConflict done conflict

-- `last` of a slice gives the last
pub last_is : {X : Type 0} (xs : List X) → slice_get xs (length xs - 1) ≡ last_of xs
last_is [] = refl
last_is (x ∷ []) = refl
last_is (x ∷ y ∷ ys) =
    let at : length (x ∷ y ∷ ys) - 1 ≡ suc (length (y ∷ ys) - 1) = omega arith in
    ap (slice_get (x ∷ y ∷ ys)) at ∙ last_is (y ∷ ys)

last_of-map : {X Y : Type 0} (f : X → Y) (xs : List X) → last_of (map f xs) ≡ option_map f (last_of xs)
last_of-map f [] = refl
last_of-map f (x ∷ []) = refl
last_of-map f (x ∷ y ∷ ys) = last_of-map f (y ∷ ys)

last_none : {X : Type 0} (xs : List X) → last_of xs ≡ None → xs ≡ []
last_none [] is = refl
last_none (x ∷ []) is = absurd (none-some x (sym is))
last_none (x ∷ y ∷ ys) is = let none = last_none (y ∷ ys) is in cc

pub equal_bytes : (x y : List ℕ) → bytes_eq x y ≡ true → x ≡ y
equal_bytes x y e = bytes_exact x y (is_equal _ (is_eq-slice_cmp x y ∙ e))

pub other_bytes : (x y : List ℕ) → bytes_eq x y ≡ false → x ≢ y
other_bytes x y e same =
    true≢false (sym (ap is_eq (subst (λ z. bytes_cmp x z ≡ Equal) same (tied_itself bytes_total x))) ∙ is_eq-slice_cmp x y ∙ e)

-- what a line's standing tells
tells_same : (o : Option Listed) (next : Listed) → standing_of o next ≡ Same → (l : Listed) × (o ≡ Some l) × (l.name ≡ next.name) × (l.digest.0 ≡ next.digest.0)
tells_same None next is = cc
tells_same (Some l) next is =
    elim (bytes_eq l.name next.name) as (λ b. bytes_eq l.name next.name ≡ b → cond b (same_or_other l next) New ≡ Same → (m : Listed) × (Some l ≡ Some m) × (m.name ≡ next.name) × (m.digest.0 ≡ next.digest.0)) [
      | true ↦ λ p h. elim (bytes_eq l.digest.0 next.digest.0) as (λ b. bytes_eq l.digest.0 next.digest.0 ≡ b → cond b Same Other ≡ Same → (m : Listed) × (Some l ≡ Some m) × (m.name ≡ next.name) × (m.digest.0 ≡ next.digest.0)) [
        | true ↦ λ q g. (l, refl, equal_bytes _ _ p, equal_bytes _ _ q)
        | false ↦ λ q g. cc
      ] refl h
      | false ↦ λ p h. cc
    ] refl is

tells_other : (o : Option Listed) (next : Listed) → standing_of o next ≡ Other → (l : Listed) × (o ≡ Some l) × (l.name ≡ next.name) × (l.digest.0 ≢ next.digest.0)
tells_other None next is = cc
tells_other (Some l) next is =
    elim (bytes_eq l.name next.name) as (λ b. bytes_eq l.name next.name ≡ b → cond b (same_or_other l next) New ≡ Other → (m : Listed) × (Some l ≡ Some m) × (m.name ≡ next.name) × (m.digest.0 ≢ next.digest.0)) [
      | true ↦ λ p h. elim (bytes_eq l.digest.0 next.digest.0) as (λ b. bytes_eq l.digest.0 next.digest.0 ≡ b → cond b Same Other ≡ Other → (m : Listed) × (Some l ≡ Some m) × (m.name ≡ next.name) × (m.digest.0 ≢ next.digest.0)) [
        | true ↦ λ q g. cc
        | false ↦ λ q g. (l, refl, equal_bytes _ _ p, other_bytes _ _ q)
      ] refl h
      | false ↦ λ p h. cc
    ] refl is

tells_new : (l next : Listed) → standing_of (Some l) next ≡ New → bytes_eq l.name next.name ≡ false
tells_new l next is =
    elim (bytes_eq l.name next.name) as (λ b. cond b (same_or_other l next) New ≡ New → b ≡ false) [
      | true ↦ λ h. elim (bytes_eq l.digest.0 next.digest.0) as (λ b. cond b Same Other ≡ New → true ≡ false) [ true ↦ λ g. cc | false ↦ λ g. cc ] h
      | false ↦ λ h. refl
    ] is

sorted_tail : {X : Type 0} (lt : X → X → Bool) (x : X) (xs : List X) → IsSortedBy lt (x ∷ xs) → IsSortedBy lt xs
sorted_tail lt x xs sorted k d low high =
    let at : suc k + 1 ≡ suc (k + 1) = omega arith in
    subst (λ n. lt (get_or (x ∷ xs) n d) (get_or xs k d) ≡ false) at (sorted (suc k) d (omega arith) (omega arith))

-- the next line's name does not come before the last one's
pub not_below : (done rest : List Numbered) (n next : Numbered) → AreByName (done ++ next ∷ rest) → last_of done ≡ Some n → is_lt (bytes_cmp next.listed.name n.listed.name) ≡ false
not_below [] rest n next sorted is = absurd (none-some n is)
not_below (m ∷ []) rest n next sorted is =
    subst (λ x. is_lt (bytes_cmp next.listed.name x.listed.name) ≡ false) (same_Some m n is) (sorted 0 next (omega arith) (omega arith))
not_below (m ∷ k ∷ done) rest n next sorted is =
    not_below (k ∷ done) rest n next (sorted_tail (λ x y. is_lt (bytes_cmp x.listed.name y.listed.name)) m (k ∷ done ++ next ∷ rest) sorted) is

said_more : (ns : List Numbered) (n : Numbered) (name digest : List ℕ) → said (entries_in ns) name ≡ Some digest → said (entries_in (ns ++ n ∷ [])) name ≡ Some digest
said_more ns n name digest is =
    ap (λ es. said es name) (map_push numbered_entry ns n) ∙ found_stays bytes_cmp name (entries_in ns) (numbered_entry n ∷ []) digest is

any_more : (P Q : Numbered → Type 0) (ns : List Numbered) (n : Numbered) → Any P ns → ((m : Numbered) → P m → Q m) → Any Q (ns ++ n ∷ [])
any_more P Q ns n any more =
    let at = Contains-append_left ns (n ∷ []) any.1 (any.0, any.2, any.3) in
    (at.0, any.1, at.1, at.2, more any.1 any.4)

module _ (ns : List Numbered) (n : Numbered) where
  abbrev all : List Numbered
  all = ns ++ n ∷ []

  still_agrees : (m : Numbered) → Agrees (entries_in ns) m → Agrees (entries_in all) m
  still_agrees m is = said_more ns n m.listed.name m.listed.digest.0 is

  still_differs : (m : Numbered) → Differs (entries_in ns) m → Differs (entries_in all) m
  still_differs m is = (is.0, said_more ns n m.listed.name is.0 is.1, is.2)

  -- a line that agrees is no new conflict
  pub conflict_more : (conflict : Option ℕ) → IsConflict ns conflict → Agrees (entries_in all) n → IsConflict all conflict
  conflict_more None is agrees = All-push (Agrees (entries_in all)) ns n (All-weaker (Agrees (entries_in ns)) (Agrees (entries_in all)) still_agrees ns is) agrees
  conflict_more (Some line) is agrees = (
    any_more (λ m. (m.line ≡ line) × Differs (entries_in ns) m) (λ m. (m.line ≡ line) × Differs (entries_in all) m) ns n is.0 (λ m h. (h.0, still_differs m h.1)),
    All-push (λ m. m.line < line → Agrees (entries_in all) m) ns n
        (All-weaker (λ m. m.line < line → Agrees (entries_in ns) m) (λ m. m.line < line → Agrees (entries_in all) m) (λ m h lt. still_agrees m (h lt)) ns is.1) (λ lt. agrees),
  )

  -- a line that differs is one
  pub conflict_least : (conflict : Option ℕ) → IsConflict ns conflict → Differs (entries_in all) n → IsConflict all (Some (least conflict n.line))
  conflict_least None is differs = (
    Any-push (λ m. (m.line ≡ n.line) × Differs (entries_in all) m) ns n (refl, differs),
    All-push (λ m. m.line < n.line → Agrees (entries_in all) m) ns n
        (All-weaker (Agrees (entries_in ns)) (λ m. m.line < n.line → Agrees (entries_in all) m) (λ m h lt. still_agrees m h) ns is) (λ lt. absurd (omega arith)),
  )
  conflict_least (Some first) is differs =
      elim (ltb first n.line) as (λ b. ltb first n.line ≡ b → IsConflict all (Some (cond b first n.line))) [
        | true ↦ λ p. (
          any_more (λ m. (m.line ≡ first) × Differs (entries_in ns) m) (λ m. (m.line ≡ first) × Differs (entries_in all) m) ns n is.0 (λ m h. (h.0, still_differs m h.1)),
          All-push (λ m. m.line < first → Agrees (entries_in all) m) ns n
              (All-weaker (λ m. m.line < first → Agrees (entries_in ns) m) (λ m. m.line < first → Agrees (entries_in all) m) (λ m h lt. still_agrees m (h lt)) ns is.1)
              (λ lt. absurd (omega (arith, ltb-true first n.line p))),
        )
        | false ↦ λ p. (
          Any-push (λ m. (m.line ≡ n.line) × Differs (entries_in all) m) ns n (refl, differs),
          All-push (λ m. m.line < n.line → Agrees (entries_in all) m) ns n
              (All-weaker (λ m. m.line < first → Agrees (entries_in ns) m) (λ m. m.line < n.line → Agrees (entries_in all) m) (λ m h lt. still_agrees m (h (omega (arith, ltb-false first n.line p)))) ns is.1)
              (λ lt. absurd (omega arith)),
        )
      ] refl

module _ (done : List Numbered) (listed : List Listed) (conflict : Option ℕ) (so : IsMergedSoFar done listed conflict) (next : Numbered) where
  last_entry : (l : Listed) → last_of listed ≡ Some l → last_of (entries_of listed) ≡ Some (listed_entry l)
  last_entry l p = last_of-map listed_entry listed ∙ ap (option_map listed_entry) p

  less : (l : Listed) → last_of listed ≡ Some l → ((n : Numbered) → last_of done ≡ Some n → is_lt (bytes_cmp next.listed.name n.listed.name) ≡ false) → bytes_eq l.name next.listed.name ≡ false → bytes_cmp l.name next.listed.name ≡ Less
  less l p above other =
      let same : Some l.name ≡ option_map (λ (n : Numbered). n.listed.name) (last_of done) = sym (ap (option_map (λ (x : Listed). x.name)) p) ∙ so.last in
      let not_less : is_lt (bytes_cmp next.listed.name l.name) ≡ false =
      elim (last_of done) as (λ o. last_of done ≡ o → Some l.name ≡ option_map (λ (n : Numbered). n.listed.name) o → is_lt (bytes_cmp next.listed.name l.name) ≡ false) [
        | None ↦ λ q e. cc
        | Some n ↦ λ q e. subst (λ x. is_lt (bytes_cmp next.listed.name x) ≡ false) (sym (same_Some l.name n.listed.name e)) (above n q)
      ] refl same
      in
      elim (bytes_cmp l.name next.listed.name) as (λ r. bytes_cmp l.name next.listed.name ≡ r → r ≡ Less) [
        | Less ↦ λ q. refl
        | Equal ↦ λ q. absurd (true≢false (sym (ap is_eq q) ∙ is_eq-slice_cmp l.name next.listed.name ∙ other))
        | Greater ↦ λ q. absurd (true≢false (sym (ap is_lt (bytes_total.antisymm next.listed.name l.name ∙ ap ordering_reverse q)) ∙ not_less))
      ] refl

  all_below : ((n : Numbered) → last_of done ≡ Some n → is_lt (bytes_cmp next.listed.name n.listed.name) ≡ false) → standing_of (last_of listed) next.listed ≡ New → AllByRecursion (λ e. bytes_cmp e.0 next.listed.name ≡ Less) (entries_of listed)
  all_below above =
      elim (last_of listed) as (λ o. last_of listed ≡ o → standing_of o next.listed ≡ New → AllByRecursion (λ e. bytes_cmp e.0 next.listed.name ≡ Less) (entries_of listed)) [
        | None ↦ λ p is. subst (λ ls. AllByRecursion (λ e. bytes_cmp e.0 next.listed.name ≡ Less) (entries_of ls)) (sym (last_none listed p)) tt
        | Some l ↦ λ p is. below_last bytes_cmp bytes_total next.listed.name (listed_entry l) (entries_of listed) so.sorted (last_entry l p) (less l p above (tells_new l next.listed is))
      ] refl

  -- a new name goes to the end
  pub new_name : ((n : Numbered) → last_of done ≡ Some n → is_lt (bytes_cmp next.listed.name n.listed.name) ≡ false) → standing_of (last_of listed) next.listed ≡ New → IsMergedSoFar (done ++ next ∷ []) (listed ++ next.listed ∷ []) conflict
  new_name above is =
      let name = next.listed.name in
      let digest = next.listed.digest.0 in
      let all = all_below above is in
      let none : said (entries_in done) name ≡ None = sym (so.names name) ∙ find_above bytes_cmp bytes_total name (entries_of listed) all in
      record {
        sorted = subst (λ es. IsTrue (is_sorted bytes_cmp es)) (sym (map_push listed_entry listed next.listed)) (sorted_push bytes_cmp bytes_total name digest (entries_of listed) so.sorted all);
        names = λ q.
            ap (λ es. said es q) (map_push listed_entry listed next.listed) ∙ find-join bytes_cmp q (entries_of listed) ((name, digest) ∷ [])
            ∙ ap (λ f. option_or f (find bytes_cmp q ((name, digest) ∷ []))) (so.names q)
            ∙ sym (ap (λ es. said es q) (map_push numbered_entry done next) ∙ find-join bytes_cmp q (entries_in done) ((name, digest) ∷ []));
        last = ap (option_map (λ (l : Listed). l.name)) (last_of-push listed next.listed) ∙ sym (ap (option_map (λ (n : Numbered). n.listed.name)) (last_of-push done next));
        least = conflict_more done next conflict so.least (ap (λ es. said es name) (map_push numbered_entry done next) ∙ found_last bytes_cmp bytes_total (entries_in done) name digest none);
      }

  here : (l : Listed) → last_of listed ≡ Some l → l.name ≡ next.listed.name → said (entries_in done) next.listed.name ≡ Some l.digest.0
  here l p same =
      sym (so.names next.listed.name) ∙ subst (λ q. said (entries_of listed) q ≡ Some l.digest.0) same (find_last bytes_cmp bytes_total (listed_entry l) (entries_of listed) so.sorted (last_entry l p))

  kept : (l : Listed) → last_of listed ≡ Some l → l.name ≡ next.listed.name → (after : Option ℕ) → IsConflict (done ++ next ∷ []) after → IsMergedSoFar (done ++ next ∷ []) listed after
  kept l p same after least = record {
    sorted = so.sorted;
    names = λ q.
        so.names q
        ∙ sym (ap (λ es. said es q) (map_push numbered_entry done next) ∙ found_again bytes_cmp bytes_total (entries_in done) next.listed.name next.listed.digest.0 l.digest.0 (here l p same) q);
    last = ap (option_map (λ (l : Listed). l.name)) p ∙ ap Some same ∙ sym (ap (option_map (λ (n : Numbered). n.listed.name)) (last_of-push done next));
    least = least;
  }

  -- the same name with the same digest adds nothing
  pub same_digest : standing_of (last_of listed) next.listed ≡ Same → IsMergedSoFar (done ++ next ∷ []) listed conflict
  same_digest is =
      let tells = tells_same (last_of listed) next.listed is in
      kept tells.0 tells.1 tells.2 conflict
      (conflict_more done next conflict so.least (said_more done next next.listed.name next.listed.digest.0 (here tells.0 tells.1 tells.2 ∙ ap Some tells.3)))

  -- the same name with another digest conflicts
  pub other_digest : standing_of (last_of listed) next.listed ≡ Other → IsMergedSoFar (done ++ next ∷ []) listed (Some (least conflict next.line))
  other_digest is =
      let tells = tells_other (last_of listed) next.listed is in
      kept tells.0 tells.1 tells.2 (Some (least conflict next.line))
      (conflict_least done next conflict so.least (tells.0.digest.0, said_more done next next.listed.name tells.0.digest.0 (here tells.0 tells.1 tells.2), tells.3))
