-- The removal of the left-overs: from the names of the store folder to all that lies below them, and from a count that is
-- left to how much stood.
use Rattle.std.proofs.Common.{◌≡◌, ◌⊎◌, ℕ, ◌+◌, ◌≤◌, Bool, true, false, cond, List, [], ◌∷◌, length, Option, Some, None, IfSome, Result, Ok, Err, refl, sym, ap, ◌∙◌, subst, inl, inr, arith}
use Rattle.std.specs.Prelude.{filter}
use Rattle.std.specs.List.{list_any}
use Rattle.std.specs.Option.{is_some}
use Rattle.std.specs.Result.{is_ok}
use Rattle.std.specs.Ordering.{eq_by_cmp}
use Rattle.std.proofs.lemmas.Bool.{false≢true, and_parts, and_from, or_left, or_right, or_cases, cases_Bool, cond-false}
use Rattle.ext_text.specs.Name.{bytes_cmp}
use Rattle.ext_text.specs.Path.{path_cmp, is_prefix}
use Rattle.ext_text.proofs.ForCallers.{same_name, tied_name, same_path, tied_path}
use Rattle.ext_disk.specs.Disk.{Places, Told, DiskState, BothTold, IsTree, IsDisk}
use Rattle.ext_disk.specs.Since.{Rests}
use Rattle.ext_disk.specs.Lookups.{IsListing}
use Rattle.ext_store_files.specs.LeftOvers.{is_left_over, is_left_path}
use Rattle.ext_store_files.specs.declared.errors.CleanErr.{CleanErr}
use Rattle.ext_store_files.specs.declared.errors.CleanErr.TheVariants.{DiskFault, OutOfMemory, Unfinished}
use Rattle.ext_store_files.specs.Removal.{is_one_of, AppendsNothing, AreDistinct, AreGone, Removes, ClearsTold, Clears, is_below_any}
use Rattle.ext_store_files.proofs.ToldLemmas.{told_map}
use Rattle.ext_store_files.proofs.RemovalLemmas.{contrapose, in_stand, still_stood, gone_none}
use Rattle.ext_store_files.proofs.ClearingLemmas.{stands_above, clears_wider, rests_clears}

left_at : (needed : ℕ → Bool) (n : List ℕ) (q : List (List ℕ)) → is_left_over needed n ≡ true → is_prefix (n ∷ []) q ≡ true → is_left_path needed q ≡ true
left_at needed n [] left prefix = absurd (false≢true prefix)
left_at needed n (m ∷ q) left prefix =
    ap (is_left_over needed) (sym (same_name n m (and_parts (eq_by_cmp bytes_cmp n m) true prefix).0)) ∙ left

below_left : (needed : ℕ → Bool) (names : List (List ℕ)) (q : List (List ℕ)) → is_below_any [] (filter (is_left_over needed) names) q ≡ true → is_left_path needed q ≡ true
below_left needed [] q hit = absurd (false≢true hit)
below_left needed (n ∷ names) q hit =
    one (is_left_over needed n) refl (below_left needed names q)
    (subst (λ l. is_below_any [] l q ≡ true) refl hit)
  where
    one : (b : Bool) → is_left_over needed n ≡ b → (is_below_any [] (filter (is_left_over needed) names) q ≡ true → is_left_path needed q ≡ true)
        → is_below_any [] (cond b (n ∷ filter (is_left_over needed) names) (filter (is_left_over needed) names)) q ≡ true → is_left_path needed q ≡ true
    one true left rest here = elim (or_cases (is_prefix (n ∷ []) q) (is_below_any [] (filter (is_left_over needed) names) q) here) [
      | inl prefix ↦ left_at needed n q left prefix
      | inr more ↦ rest more
    ]
    one false left rest here = rest here

-- a left-over that is listed is among those that are left of the names
left_listed : (left : List ℕ → Bool) (m : List ℕ) (r : List (List ℕ)) (names : List (List ℕ)) → left m ≡ true → list_any (eq_by_cmp bytes_cmp m) names ≡ true
    → is_below_any [] (filter left names) (m ∷ r) ≡ true
left_listed left m r [] is hit = absurd (false≢true hit)
left_listed left m r (n ∷ names) is hit = one (left n) refl (or_cases (eq_by_cmp bytes_cmp m n) (list_any (eq_by_cmp bytes_cmp m) names) hit) (left_listed left m r names is)
  where
    one : (b : Bool) → left n ≡ b → (eq_by_cmp bytes_cmp m n ≡ true) ⊎ (list_any (eq_by_cmp bytes_cmp m) names ≡ true)
        → (list_any (eq_by_cmp bytes_cmp m) names ≡ true → is_below_any [] (filter left names) (m ∷ r) ≡ true)
        → is_below_any [] (cond b (n ∷ filter left names) (filter left names)) (m ∷ r) ≡ true
    one true kept (inl tied) rest = or_left _ _ (and_from _ _ (tied_name n m (sym (same_name m n tied))) refl)
    one true kept (inr more) rest = or_right (is_prefix (n ∷ []) (m ∷ r)) _ (rest more)
    one false kept (inl tied) rest = absurd (false≢true (sym kept ∙ ap left (sym (same_name m n tied)) ∙ is))
    one false kept (inr more) rest = rest more

left_stands : (needed : ℕ → Bool) (d : Places) (names : List (List ℕ)) → IsTree d → IsListing d [] names → (q : List (List ℕ)) → is_left_path needed q ≡ true → is_some (d q).node ≡ true
    → is_below_any [] (filter (is_left_over needed) names) q ≡ true
left_stands needed d names tree lists [] left some = absurd (false≢true left)
left_stands needed d names tree lists (m ∷ r) left some =
    left_listed (is_left_over needed) m r names left (lists.has m ∙ stands_above d tree (m ∷ []) r some)

told_left : {T : Type 0} (r : Result T CleanErr) (needed : ℕ → Bool) (names : List (List ℕ)) (o : Option Told) → IfSome o IsDisk → IfSome o (λ d. IsListing d.places [] names)
    → IfSome o (λ d. is_ok r ≡ true → (q : List (List ℕ)) → is_left_path needed q ≡ true → is_some (d.places q).node ≡ true → is_below_any [] (filter (is_left_over needed) names) q ≡ true)
told_left r needed names None disk lists = tt
told_left r needed names (Some d) disk lists = λ ok. left_stands needed d.places names disk.tree lists

-- all left-overs that the store folder has
pub clears_left : {T : Type 0} (r : Result T CleanErr) (needed : ℕ → Bool) (folder : List (List ℕ)) (names given : List (List ℕ)) (before after : ℕ) (old mid new : DiskState)
    → folder ≡ [] → IfSome old.told IsDisk → Rests old mid → IfSome old.told (λ d. IsListing d.places folder names) → given ≡ filter (is_left_over needed) names
    → Clears (is_below_any folder given) r before after mid new → Clears (is_left_path needed) r before after old new
clears_left r needed folder names given before after old mid new root disk rests lists same clears =
    clears_wider (is_below_any [] (filter (is_left_over needed) names)) (is_left_path needed) r before after old new (below_left needed names)
    (told_left r needed names old.told disk (subst (λ p. IfSome old.told (λ d. IsListing d.places p names)) root lists))
    (rests_clears (is_below_any [] (filter (is_left_over needed) names)) r before after old mid new rests
    (subst (λ l. Clears (is_below_any [] l) r before after mid new) same (subst (λ p. Clears (is_below_any p given) r before after mid new) root clears)))

without : List (List ℕ) → List (List (List ℕ)) → List (List (List ℕ))
without p [] = []
without p (x ∷ xs) = cond (eq_by_cmp path_cmp p x) xs (x ∷ without p xs)

length_without : (p : List (List ℕ)) (xs : List (List (List ℕ))) → is_one_of p xs ≡ true → length xs ≡ length (without p xs) + 1
unfolding without
length_without p [] is = absurd (false≢true is)
length_without p (x ∷ xs) is = one (eq_by_cmp path_cmp p x) (or_cases (eq_by_cmp path_cmp p x) (is_one_of p xs) is) (length_without p xs)
  where
    one : (b : Bool) → (b ≡ true) ⊎ (is_one_of p xs ≡ true) → (is_one_of p xs ≡ true → length xs ≡ length (without p xs) + 1)
        → length (x ∷ xs) ≡ length (cond b xs (x ∷ without p xs)) + 1
    one true here rest = omega arith
    one false (inl here) rest = absurd (false≢true here)
    one false (inr here) rest = let shorter = rest here in omega arith

in_without : (p q : List (List ℕ)) (xs : List (List (List ℕ))) → eq_by_cmp path_cmp q p ≡ false → is_one_of q xs ≡ true → is_one_of q (without p xs) ≡ true
unfolding without
in_without p q [] apart is = is
in_without p q (x ∷ xs) apart is = one (eq_by_cmp path_cmp p x) (same_path p x) (or_cases (eq_by_cmp path_cmp q x) (is_one_of q xs) is) (in_without p q xs apart)
  where
    one : (b : Bool) → (b ≡ true → p ≡ x) → (eq_by_cmp path_cmp q x ≡ true) ⊎ (is_one_of q xs ≡ true) → (is_one_of q xs ≡ true → is_one_of q (without p xs) ≡ true)
        → is_one_of q (cond b xs (x ∷ without p xs)) ≡ true
    one true same (inl tied) rest = absurd (false≢true (sym apart ∙ ap (eq_by_cmp path_cmp q) (same refl) ∙ tied))
    one true same (inr more) rest = more
    one false same (inl tied) rest = or_left _ _ tied
    one false same (inr more) rest = or_right (eq_by_cmp path_cmp q x) _ (rest more)

-- paths that differ, each of them in a list, are no more than the list has
pub distinct_no_more : (ps xs : List (List (List ℕ))) → AreDistinct ps → ((q : List (List ℕ)) → is_one_of q ps ≡ true → is_one_of q xs ≡ true) → length ps ≤ length xs
distinct_no_more [] xs distinct within = omega arith
distinct_no_more (p ∷ ps) xs distinct within =
    let shorter = length_without p xs (within p (or_left _ _ (tied_path p p refl))) in
    let rest : length ps ≤ length (without p xs) =
    distinct_no_more ps (without p xs) distinct.1
    (λ q is. in_without p q xs
    (contrapose (eq_by_cmp path_cmp q p) (is_one_of p ps) (λ tied. subst (λ x. is_one_of x ps ≡ true) (same_path q p tied) is) distinct.0)
    (within q (or_right (eq_by_cmp path_cmp q p) _ is))) in
    omega arith

none_some : (A : Type 0) (o : Option A) → o ≡ None → is_some o ≡ true → ⊥
none_some A o none some = false≢true (sym (ap is_some none) ∙ some)

among : (reach : List (List ℕ) → Bool) (d e : Places) (gone : List (List (List ℕ))) → AreGone reach d e gone → ((p : List (List ℕ)) → reach p ≡ true → (e p).node ≡ None)
    → (q : List (List ℕ)) → reach q ≡ true → is_some (d q).node ≡ true → is_one_of q gone ≡ true
among reach d e gone are clear q within some = elim (cases_Bool (is_one_of q gone)) [
  | inl is ↦ is
  | inr out ↦ absurd (none_some _ (d q).node (sym (are.now q ∙ cond-false _ None (d q).node out) ∙ clear q within) some)
]

out_of : (reach : List (List ℕ) → Bool) (d e : Places) (gone : List (List (List ℕ))) → AreGone reach d e gone → (q : List (List ℕ)) → is_some (e q).node ≡ true → is_one_of q gone ≡ false
out_of reach d e gone are q some = elim (cases_Bool (is_one_of q gone)) [
  | inl is ↦ absurd (none_some _ (e q).node (gone_none reach d e gone are q is) some)
  | inr out ↦ out
]

told_removes : {T : Type 0} (most after : ℕ) (reach : List (List ℕ) → Bool) (r : Result T CleanErr) (d e : Told) → ClearsTold reach r most after d e → Removes most reach r d e
told_removes most after reach (Ok t) d e clears =
    let count = clears.counts in (
      (λ ps stand. omega (
        arith,
        distinct_no_more ps clears.gone stand.distinct
            (λ q is. let here = in_stand reach d.places q ps stand.all is in among reach d.places e.places clears.gone clears.are clears.ends q here.0 here.1),
      )),
      (clears.gone, clears.are, omega arith),
      clears.ends,
    )
told_removes most after reach (Err DiskFault) d e clears = let count = clears.counts in (clears.gone, clears.are, omega arith)
told_removes most after reach (Err OutOfMemory) d e clears = let count = clears.counts in (clears.gone, clears.are, omega arith)
told_removes most after reach (Err Unfinished) d e clears =
    let count = clears.counts.0 in
    let none = clears.counts.1 in
    let still = clears.ends in (
      (
        still.0 ∷ clears.gone,
        record {
          distinct = (out_of reach d.places e.places clears.gone clears.are still.0 still.2, clears.are.stood.distinct);
          all = (still.1, still_stood reach d.places e.places clears.gone clears.are still.0 still.2, clears.are.stood.all);
        },
        omega arith,
      ),
      (clears.gone, clears.are, omega arith),
    )

-- a whole removal
pub removes : {T : Type 0} (most after : ℕ) (reach : List (List ℕ) → Bool) (r : Result T CleanErr) (old new : DiskState) → Clears reach r most after old new
    → BothTold (Removes most reach r) old.told new.told
removes most after reach r old new clears =
    told_map (ClearsTold reach r most after) (Removes most reach r) (told_removes most after reach r) old.told new.told clears.told

-- which appends nothing
pub removal_appends_nothing : {T : Type 0} (before after : ℕ) (reach : List (List ℕ) → Bool) (r : Result T CleanErr) (old new : DiskState) → Clears reach r before after old new
    → BothTold AppendsNothing old.told new.told
removal_appends_nothing before after reach r old new clears =
    told_map (ClearsTold reach r before after) AppendsNothing (λ d e told. told.appended) old.told new.told clears.told
