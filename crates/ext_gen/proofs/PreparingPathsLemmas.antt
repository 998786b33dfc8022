-- The paths of a coming generation, and how parts of a change compose.
use Rattle.std.proofs.Common.{◌≡◌, ◌⊎◌, ℕ, ◌+◌, ◌≤◌, Bool, true, false, List, [], ◌∷◌, take, drop, length, get_or, Option, Some, None, Result, Ok, Err, refl, sym, ap, ◌∙◌, subst, inl, inr, arith}
use Rattle.std.specs.Ordering.{eq_by_cmp}
use Rattle.std.proofs.lemmas.Bool.{false≢true, and_parts, or_cases, or_left, or_right, cases_Bool, cond-true, cond-false}
use Rattle.ext_lines.specs.Hexadecimal.{five_digits}
use Rattle.ext_text.specs.Name.{bytes_cmp}
use Rattle.ext_text.specs.Path.{path_cmp, is_prefix}
use Rattle.ext_text.proofs.ForCallers.{same_name, same_path, prefix_trans}
use Rattle.ext_disk.specs.Disk.{Places, Told, DiskState, BothTold}
use Rattle.ext_disk.specs.Fixed.{Spares}
use Rattle.ext_disk.proofs.ForCallers.{spares_itself, spares_then, spares_wider}
use Rattle.ext_store_files.specs.LeftOvers.{is_left_path}
use Rattle.ext_store_files.specs.Names.{IsGeneration, generation_name, generation_path, index_name, index_path, next_name, next_path}
use Rattle.ext_store_files.specs.Removal.{AppendsNothing, AllStand, AreGone, Loses, Removes, is_one_of}
use Rattle.ext_store_files.specs.Writing.{is_at, nowhere, Works, WorksTold}
use Rattle.ext_store_files.specs.declared.errors.CleanErr.{CleanErr}
use Rattle.ext_store_files.specs.declared.errors.CleanErr.TheVariants.{DiskFault, OutOfMemory, Unfinished}
use Rattle.ext_store_files.proofs.ForCallers.{is_left, told_map, told_then, told_itself, within_same, within_then}
use Rattle.ext_gen.specs.PreparingPaths.{is_coming, IsComing, next, generation, index, folder, file, MakesTold, Makes, ChangesAt, stays, gone, made, ChangesTold, Changes}

pub contraposed : (a b : Bool) → (a ≡ true → b ≡ true) → b ≡ false → a ≡ false
contraposed true b gives out = absurd (false≢true (sym out ∙ gives refl))
contraposed false b gives out = refl

pub not_true : (b : Bool) → (b ≡ true → ⊥) → b ≡ false
not_true true never = absurd (never refl)
not_true false never = refl

-- each of them is at or below a left-over, where the generation is not needed
pub coming_left : (needed : ℕ → Bool) (n : ℕ) (p : List (List ℕ)) → IsGeneration n → needed n ≡ false → is_coming n p ≡ true → is_left_path needed p ≡ true
coming_left needed n [] is free coming = absurd (false≢true coming)
coming_left needed n (name ∷ p) is free coming = elim (or_cases (is_prefix (generation_path n) (name ∷ p)) (is_prefix next_path (name ∷ p)) coming) [
  | inl below ↦ is_left needed name (inr (n, is, sym (same_name (generation_name n) name (and_parts (eq_by_cmp bytes_cmp (generation_name n) name) true below).0), free))
  | inr below ↦ is_left needed name (inl (sym (same_name next_name name (and_parts (eq_by_cmp bytes_cmp next_name name) true below).0)))
]

-- at or below the folder of the generation
pub below_is_coming : (n : ℕ) (p : List (List ℕ)) → is_prefix (generation_path n) p ≡ true → is_coming n p ≡ true
below_is_coming n p below = or_left (is_prefix (generation_path n) p) (is_prefix next_path p) below

pub next_is_coming : (n : ℕ) (p : List (List ℕ)) → is_prefix next_path p ≡ true → is_coming n p ≡ true
next_is_coming n p below = or_right (is_prefix (generation_path n) p) (is_prefix next_path p) below

-- the index lies below it
pub index_below : (n : ℕ) (p : List (List ℕ)) → is_prefix (index_path n) p ≡ true → is_prefix (generation_path n) p ≡ true
index_below n p below = prefix_trans (generation_path n) (index_path n) p (generation_prefix n) below
  where
    generation_prefix : (n : ℕ) → is_prefix (generation_path n) (index_path n) ≡ true
    generation_prefix n = Rattle.ext_store_files.proofs.ForCallers.prefix_append (generation_path n) (index_name ∷ [])

pub at_index : (n files : ℕ) (p : List (List ℕ)) → is_at (index_path n) p ≡ true → IsComing n files p
at_index n files p at = subst (IsComing n files) (same_path (index_path n) p at) index

pub at_next : (n files : ℕ) (p : List (List ℕ)) → is_at next_path p ≡ true → IsComing n files p
at_next n files p at = subst (IsComing n files) (same_path next_path p at) next

pub at_generation : (n files : ℕ) (p : List (List ℕ)) → is_at (generation_path n) p ≡ true → IsComing n files p
at_generation n files p at = subst (IsComing n files) (same_path (generation_path n) p at) generation

coming_more : (n files more : ℕ) (p : List (List ℕ)) → files ≤ more → IsComing n files p → IsComing n more p
coming_more n files more p fits next = next
coming_more n files more p fits generation = generation
coming_more n files more p fits index = index
coming_more n files more p fits (folder k below) = folder k (omega (arith, below, fits))
coming_more n files more p fits (file k below) = file k (omega (arith, below, fits))

longer_than_one : (a b : List ℕ) (name : List ℕ) (rest : List (List ℕ)) → (a ∷ b ∷ rest) ≡ (name ∷ []) → ⊥
longer_than_one a b name rest same = absurd (omega (arith, ap length same))

-- of those directly in the store folder, it is `next` or the folder of the generation
top_of : (n files : ℕ) (p : List (List ℕ)) (name : List ℕ) → p ≡ name ∷ [] → IsComing n files p → (name ≡ next_name) ⊎ (name ≡ generation_name n)
top_of n files p name same next = inl (ap (λ (q : List (List ℕ)). get_or q 0 []) (sym same))
top_of n files p name same generation = inr (ap (λ (q : List (List ℕ)). get_or q 0 []) (sym same))
top_of n files p name same index = absurd (longer_than_one (generation_name n) index_name name [] same)
top_of n files p name same (folder k below) = absurd (longer_than_one (generation_name n) (take 3 (five_digits k)) name [] same)
top_of n files p name same (file k below) = absurd (longer_than_one (generation_name n) (take 3 (five_digits k)) name (drop 3 (five_digits k) ∷ []) same)

pub top_coming : (n files : ℕ) (name : List ℕ) → IsComing n files (name ∷ []) → (name ≡ next_name) ⊎ (name ≡ generation_name n)
top_coming n files name coming = top_of n files (name ∷ []) name refl coming

pub makes_nothing : (n files most : ℕ) (s : DiskState) → Makes n files most s s
makes_nothing n files most s = record {
  spares = spares_itself (is_coming n) s;
  told = told_itself (MakesTold n files most) (λ d. record { now = λ p. inl refl; appended = within_same most d.appended d.appended refl }) s.told;
}

-- calls that work within its reach, and change at its paths alone
pub works_make : (reach at : List (List ℕ) → Bool) (n files most : ℕ) (old new : DiskState)
    → ((p : List (List ℕ)) → reach p ≡ true → is_coming n p ≡ true) → ((p : List (List ℕ)) → at p ≡ true → IsComing n files p)
    → Works reach at most old new → Makes n files most old new
works_make reach at n files most old new within are works = record {
  spares = spares_wider reach (is_coming n) old new (λ p out. contraposed (reach p) (is_coming n p) (within p) out) works.spares;
  told = told_map (WorksTold at most) (MakesTold n files most)
      (λ d e told. record { now = λ p. here d e told p (cases_Bool (at p)); appended = told.appended }) old.told new.told works.told;
}
  where
    here : (d e : Told) → WorksTold at most d e → (p : List (List ℕ)) → (at p ≡ true) ⊎ (at p ≡ false) → ((e.places p).node ≡ (d.places p).node) ⊎ IsComing n files p
    here d e told p (inl is) = inr (are p is)
    here d e told p (inr out) = inl (told.now p out)

pub makes_then : (n less more files a b most : ℕ) (r s t : DiskState) → less ≤ files → more ≤ files → a + b ≤ most → Makes n less a r s → Makes n more b s t → Makes n files most r t
makes_then n less more files a b most r s t few many fits one two = record {
  spares = spares_then (is_coming n) r s t one.spares two.spares;
  told = told_then (MakesTold n less a) (MakesTold n more b) (MakesTold n files most)
      (λ c d e x y. record { now = λ p. both c d e p (x.now p) (y.now p); appended = within_then a b most c.appended d.appended e.appended fits x.appended y.appended }) r.told s.told t.told one.told two.told;
}
  where
    both : (c d e : Told) (p : List (List ℕ)) → ((d.places p).node ≡ (c.places p).node) ⊎ IsComing n less p → ((e.places p).node ≡ (d.places p).node) ⊎ IsComing n more p
        → ((e.places p).node ≡ (c.places p).node) ⊎ IsComing n files p
    both c d e p x (inr coming) = inr (coming_more n more files p many coming)
    both c d e p (inr coming) (inl same) = inr (coming_more n less files p few coming)
    both c d e p (inl before) (inl same) = inl (same ∙ before)

pub makes_wider : (n less files a most : ℕ) (old new : DiskState) → less ≤ files → a ≤ most → Makes n less a old new → Makes n files most old new
makes_wider n less files a most old new few fits makes = makes_then n less files files a 0 most old new new few (omega arith) (omega (arith, fits)) makes (makes_nothing n files 0 new)

-- syncing makes nothing
pub syncing_makes : (n files most : ℕ) (old new : DiskState) → Works nowhere nowhere 0 old new → Makes n files most old new
syncing_makes n files most old new works =
    makes_wider n files files 0 most old new (omega arith) (omega arith)
    (works_make nowhere nowhere n files 0 old new (λ p at. absurd (false≢true at)) (λ p at. absurd (false≢true at)) works)

-- what is gone was at or below a left-over
gone_left : (reach : List (List ℕ) → Bool) (d : Places) (p : List (List ℕ)) (ps : List (List (List ℕ))) → AllStand reach d ps → is_one_of p ps ≡ true → reach p ≡ true
gone_left reach d p [] all is = absurd (false≢true is)
gone_left reach d p (q ∷ ps) all is = one (or_cases (eq_by_cmp path_cmp p q) (is_one_of p ps) is) (gone_left reach d p ps all.2)
  where
    one : (eq_by_cmp path_cmp p q ≡ true) ⊎ (is_one_of p ps ≡ true) → (is_one_of p ps ≡ true → reach p ≡ true) → reach p ≡ true
    one (inl tied) rest = subst (λ x. reach x ≡ true) (sym (same_path p q tied)) all.0
    one (inr more) rest = rest more

lost_at : (reach : List (List ℕ) → Bool) (n files : ℕ) (d e : Places) (lost : List (List (List ℕ))) → AreGone reach d e lost → (p : List (List ℕ)) → (is_one_of p lost ≡ true) ⊎ (is_one_of p lost ≡ false)
    → ChangesAt reach n files d e p
lost_at reach n files d e lost are p (inl is) = gone (gone_left reach d p lost are.stood.all is) (are.now p ∙ cond-true _ None (d p).node is)
lost_at reach n files d e lost are p (inr out) = stays (are.now p ∙ cond-false _ None (d p).node out)

loses_changes : (reach : List (List ℕ) → Bool) (n files most : ℕ) (count : ℕ → Type 0) (d e : Told) → Loses reach d.places e.places count → AppendsNothing d e → ChangesTold reach n files most d e
loses_changes reach n files most count d e loses sum = record {
  now = λ p. lost_at reach n files d.places e.places loses.0 loses.1 p (cases_Bool (is_one_of p loses.0));
  appended = within_same most d.appended e.appended sum;
}

removed_changes : {T : Type 0} (reach : List (List ℕ) → Bool) (n files most many : ℕ) (r : Result T CleanErr) (d e : Told) → Removes many reach r d e → AppendsNothing d e
    → ChangesTold reach n files most d e
removed_changes reach n files most many (Ok t) d e removes sum = loses_changes reach n files most (λ k. k ≤ many) d e removes.1 sum
removed_changes reach n files most many (Err Unfinished) d e removes sum = loses_changes reach n files most (λ k. k ≡ many) d e removes.1 sum
removed_changes reach n files most many (Err DiskFault) d e removes sum = loses_changes reach n files most (λ k. k ≤ many) d e removes sum
removed_changes reach n files most many (Err OutOfMemory) d e removes sum = loses_changes reach n files most (λ k. k ≤ many) d e removes sum

both_changes : {T : Type 0} (reach : List (List ℕ) → Bool) (n files most many : ℕ) (r : Result T CleanErr) (x y : Option Told) → BothTold (Removes many reach r) x y → BothTold AppendsNothing x y
    → BothTold (ChangesTold reach n files most) x y
both_changes reach n files most many r None None removes sum = tt
both_changes reach n files most many r None (Some e) removes sum = absurd removes
both_changes reach n files most many r (Some d) None removes sum = absurd removes
both_changes reach n files most many r (Some d) (Some e) removes sum = removed_changes reach n files most many r d e removes sum

pub removal_changes : {T : Type 0} (needed : ℕ → Bool) (n files most many : ℕ) (r : Result T CleanErr) (old new : DiskState) → Spares (is_left_path needed) old new
    → BothTold (Removes many (is_left_path needed) r) old.told new.told → BothTold AppendsNothing old.told new.told → Changes needed n files most old new
removal_changes needed n files most many r old new spares removes sum = record {
  spares = spares;
  told = both_changes (is_left_path needed) n files most many r old.told new.told removes sum;
}

pub changes_nothing : (needed : ℕ → Bool) (n files most : ℕ) (s : DiskState) → Changes needed n files most s s
changes_nothing needed n files most s = record {
  spares = spares_itself (is_left_path needed) s;
  told = told_itself (ChangesTold (is_left_path needed) n files most) (λ d. record { now = λ p. stays refl; appended = within_same most d.appended d.appended refl }) s.told;
}

-- the removal, and then a part that makes something
pub changes_then : (needed : ℕ → Bool) (n less more files a b most : ℕ) (r s t : DiskState) → IsGeneration n → needed n ≡ false → less ≤ files → more ≤ files → a + b ≤ most
    → Changes needed n less a r s → Makes n more b s t → Changes needed n files most r t
changes_then needed n less more files a b most r s t is free few many fits one two = record {
  spares = spares_then (is_left_path needed) r s t one.spares
      (spares_wider (is_coming n) (is_left_path needed) s t (λ p out. contraposed (is_coming n p) (is_left_path needed p) (coming_left needed n p is free) out) two.spares);
  told = told_then (ChangesTold (is_left_path needed) n less a) (MakesTold n more b) (ChangesTold (is_left_path needed) n files most)
      (λ c d e x y. record { now = λ p. both c d e p (x.now p) (y.now p); appended = within_then a b most c.appended d.appended e.appended fits x.appended y.appended }) r.told s.told t.told one.told two.told;
}
  where
    both : (c d e : Told) (p : List (List ℕ)) → ChangesAt (is_left_path needed) n less c.places d.places p → ((e.places p).node ≡ (d.places p).node) ⊎ IsComing n more p
        → ChangesAt (is_left_path needed) n files c.places e.places p
    both c d e p x (inr coming) = made (coming_more n more files p many coming)
    both c d e p (stays before) (inl same) = stays (same ∙ before)
    both c d e p (gone left none) (inl same) = gone left (same ∙ none)
    both c d e p (made coming) (inl same) = made (coming_more n less files p few coming)

pub changes_wider : (needed : ℕ → Bool) (n less files a most : ℕ) (old new : DiskState) → IsGeneration n → needed n ≡ false → less ≤ files → a ≤ most
    → Changes needed n less a old new → Changes needed n files most old new
changes_wider needed n less files a most old new is free few fits changes =
    changes_then needed n less files files a 0 most old new new is free few (omega arith) (omega (arith, fits)) changes (makes_nothing n files 0 new)
