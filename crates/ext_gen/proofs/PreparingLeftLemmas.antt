-- What a change says of left-overs: how many stood, and that never too many are gone.
use Rattle.std.proofs.Common.{◌≡◌, ◌⊎◌, ℕ, ◌≤◌, Bool, true, false, not, List, [], ◌∷◌, length, Option, Some, None, Result, Ok, Err, sym, ap, ◌∙◌, subst, inl, inr, arith}
use Rattle.std.specs.Prelude.{IfErr}
use Rattle.std.specs.Ordering.{eq_by_cmp}
use Rattle.std.specs.Option.{is_some}
use Rattle.std.proofs.lemmas.Bool.{false≢true, and_parts, or_cases, cases_Bool, cond-false}
use Rattle.ext_text.specs.Path.{path_cmp}
use Rattle.ext_text.proofs.ForCallers.{same_path}
use Rattle.ext_depot.specs.Depot.{DepotState}
use Rattle.ext_disk.specs.Disk.{Places, Told, DiskState, BothTold}
use Rattle.ext_tree.specs.Tree.{Entries}
use Rattle.ext_host.specs.Held.{HeldFile}
use Rattle.ext_store_files.specs.Removal.{is_one_of, AllStand, AtMost, Loses, Removes}
use Rattle.ext_store_files.specs.declared.errors.CleanErr.{CleanErr}
use Rattle.ext_store_files.specs.declared.errors.CleanErr.TheVariants as clean_errors
use Rattle.ext_store_files.proofs.ForCallers.{distinct_no_more, told_itself, told_map, told_then}
use Rattle.ext_store_files.specs.declared.fault.StoreFault.TheVariants.{OutOfMemory, DiskFault, DepotFault, Damaged}
use Rattle.ext_store_files.specs.LeftOvers.{most_left_overs}
use Rattle.ext_homes.specs.Placed.{Stored}
use Rattle.ext_gen.specs.PreparingCauses.{store_err_of_clean, FillCause, MoveCause}
use Rattle.ext_gen.specs.PreparingPaths.{is_gone, Cleans, CleansSays, FewGone}
use Rattle.ext_gen.specs.declared.errors.StoreErr.{StoreErr}
use Rattle.ext_gen.specs.declared.errors.StoreErr.TheVariants.{Fault, Broken, Mismatch, NotInDepot, Unfinished, Limit}

not_both : (b : Bool) → not b ≡ true → b ≡ true → ⊥
not_both true out is = false≢true out
not_both false out is = false≢true is

stands_in : (reach : List (List ℕ) → Bool) (d : Places) (p : List (List ℕ)) (ps : List (List (List ℕ))) → AllStand reach d ps → is_one_of p ps ≡ true → (reach p ≡ true) × (is_some (d p).node ≡ true)
stands_in reach d p [] all is = absurd (false≢true is)
stands_in reach d p (q ∷ ps) all is = one (or_cases (eq_by_cmp path_cmp p q) (is_one_of p ps) is) (stands_in reach d p ps all.2)
  where
    one : (eq_by_cmp path_cmp p q ≡ true) ⊎ (is_one_of p ps ≡ true) → (is_one_of p ps ≡ true → (reach p ≡ true) × (is_some (d p).node ≡ true)) → (reach p ≡ true) × (is_some (d p).node ≡ true)
    one (inl tied) rest = subst (λ x. (reach x ≡ true) × (is_some (d x).node ≡ true)) (sym (same_path p q tied)) (all.0, all.1)
    one (inr more) rest = rest more

all_left : (left : List (List ℕ) → Bool) (d e : Places) (ps : List (List (List ℕ))) → AllStand (is_gone left e) d ps → AllStand left d ps
all_left left d e [] all = tt
all_left left d e (p ∷ ps) all = ((and_parts (left p) (not (is_some (e p).node)) all.0).0, all.1, all_left left d e ps all.2)

-- where nothing changed
pub few_same : (left : List (List ℕ) → Bool) (d : Places) → FewGone left d d
few_same left d [] stand = omega arith
few_same left d (p ∷ ps) stand = absurd (not_both (is_some (d p).node) (and_parts (left p) (not (is_some (d p).node)) stand.all.0).1 stand.all.1)

-- where few stood
pub few_stood : (left : List (List ℕ) → Bool) (d e : Places) → AtMost most_left_overs left d → FewGone left d e
few_stood left d e few ps stand = few ps (record { distinct = stand.distinct; all = all_left left d e ps stand.all })

-- where so many are gone
pub few_lost : (left : List (List ℕ) → Bool) (count : ℕ → Type 0) (d e : Places) → ((n : ℕ) → count n → n ≤ most_left_overs) → Loses left d e count → FewGone left d e
few_lost left count d e bound loses ps stand =
    omega (arith, bound (length loses.0) loses.2, distinct_no_more ps loses.0 stand.distinct (λ q is. here q (stands_in (is_gone left e) d q ps stand.all is) (cases_Bool (is_one_of q loses.0))))
  where
    here : (q : List (List ℕ)) → (is_gone left e q ≡ true) × (is_some (d q).node ≡ true) → (is_one_of q loses.0 ≡ true) ⊎ (is_one_of q loses.0 ≡ false) → is_one_of q loses.0 ≡ true
    here q stood (inl is) = is
    here q stood (inr out) =
        absurd (not_both (is_some (e q).node) (and_parts (left q) (not (is_some (e q).node)) stood.0).1 (ap is_some (loses.1.now q ∙ cond-false (is_one_of q loses.0) None (d q).node out) ∙ stood.1))

-- the answer is another than that the removal is unfinished
abbrev pub IsFinished : StoreErr → Type 0
IsFinished (Fault OutOfMemory) = Unit {0}
IsFinished (Fault DiskFault) = Unit {0}
IsFinished (Fault DepotFault) = Unit {0}
IsFinished (Broken line) = Unit {0}
IsFinished (Fault (Damaged damage)) = Unit {0}
IsFinished (Mismatch path listed found) = Unit {0}
IsFinished (NotInDepot path) = Unit {0}
IsFinished Unfinished = ⊥
IsFinished (Limit which) = Unit {0}

pub write_finished : (before after : ℕ) (e : StoreErr) → MoveCause before after e → IsFinished e
write_finished before after (Fault OutOfMemory) cause = tt
write_finished before after (Fault DiskFault) cause = tt
write_finished before after (Fault DepotFault) cause = tt
write_finished before after (Broken line) cause = tt
write_finished before after (Fault (Damaged damage)) cause = tt
write_finished before after (Mismatch path listed found) cause = tt
write_finished before after (NotInDepot path) cause = tt
write_finished before after Unfinished cause = absurd cause
write_finished before after (Limit which) cause = tt

pub fill_finished : (old new : DiskState) (before after : DepotState) (stored : Stored) (n : ℕ) (es : Entries HeldFile) (e : StoreErr) → FillCause old new before after stored n es e → IsFinished e
fill_finished old new before after stored n es (Fault OutOfMemory) cause = tt
fill_finished old new before after stored n es (Fault DiskFault) cause = tt
fill_finished old new before after stored n es (Fault DepotFault) cause = tt
fill_finished old new before after stored n es (Broken line) cause = tt
fill_finished old new before after stored n es (Fault (Damaged damage)) cause = tt
fill_finished old new before after stored n es (Mismatch path listed found) cause = tt
fill_finished old new before after stored n es (NotInDepot path) cause = tt
fill_finished old new before after stored n es Unfinished cause = absurd cause
fill_finished old new before after stored n es (Limit which) cause = tt

pub failed_finished : (T : Type 0) (e : StoreErr) (r : Result T StoreErr) → r ≡ Err e → IsFinished e → IfErr r IsFinished
failed_finished T e r is finished = subst (λ x. IfErr x IsFinished) (sym is) finished

pub cause_finished : (T : Type 0) (C : StoreErr → Type 0) (r : Result T StoreErr) → ((e : StoreErr) → C e → IsFinished e) → IfErr r C → IfErr r IsFinished
cause_finished T C (Ok t) finishes cause = tt
cause_finished T C (Err e) finishes cause = finishes e cause

pub memory_finished : (e : StoreErr) → e ≡ (Fault OutOfMemory) → IsFinished e
memory_finished e is = subst IsFinished (sym is) tt

-- after the removal
few_says : (T : Type 0) (left : List (List ℕ) → Bool) (d e : Places) (r : Result T StoreErr) → IfErr r IsFinished → AtMost most_left_overs left d → CleansSays left r d e
few_says T left d e (Ok t) finished few = few
few_says T left d e (Err (Fault OutOfMemory)) finished few = few_stood left d e few
few_says T left d e (Err (Fault DiskFault)) finished few = few_stood left d e few
few_says T left d e (Err (Fault DepotFault)) finished few = few
few_says T left d e (Err (Broken line)) finished few = tt
few_says T left d e (Err (Fault (Damaged damage))) finished few = few
few_says T left d e (Err (Mismatch path listed found)) finished few = few
few_says T left d e (Err (NotInDepot path)) finished few = few
few_says T left d e (Err Unfinished) finished few = absurd finished
few_says T left d e (Err (Limit which)) finished few = tt

-- nothing was done, since memory ran out
pub cleans_nothing : (T : Type 0) (left : List (List ℕ) → Bool) (s : DiskState) (r : Result T StoreErr) → r ≡ Err (Fault OutOfMemory) → Cleans left r s s
cleans_nothing T left s r is =
    told_itself (λ d e. CleansSays left r d.places e.places) (λ d. subst (λ x. CleansSays left x d.places d.places) (sym is) (few_same left d.places)) s.told

-- the removal failed
pub cleans_failed : (T U : Type 0) (left : List (List ℕ) → Bool) (e : CleanErr) (old new : DiskState) (r : Result T CleanErr) (s : Result U StoreErr) → r ≡ Err e → s ≡ Err (store_err_of_clean e)
    → BothTold (Removes most_left_overs left r) old.told new.told → Cleans left s old new
cleans_failed T U left e old new r s one two removes =
    told_map (Removes most_left_overs left r) (λ d f. CleansSays left s d.places f.places) (λ d f is. both e d f (subst (λ x. Removes most_left_overs left x d f) one is) s two) old.told new.told removes
  where
    both : (x : CleanErr) (d f : Told) → (let y : Result T CleanErr = Err x in Removes most_left_overs left y d f) → (z : Result U StoreErr) → z ≡ Err (store_err_of_clean x) → CleansSays left z d.places f.places
    both clean_errors.DiskFault d f is z same = subst (λ y. CleansSays left y d.places f.places) (sym same) (few_lost left (λ n. n ≤ most_left_overs) d.places f.places (λ n few. few) is)
    both clean_errors.OutOfMemory d f is z same = subst (λ y. CleansSays left y d.places f.places) (sym same) (few_lost left (λ n. n ≤ most_left_overs) d.places f.places (λ n few. few) is)
    both clean_errors.Unfinished d f is z same = subst (λ y. CleansSays left y d.places f.places) (sym same) is

-- the removal was done, and then something else
pub cleans_made : (T U : Type 0) (t : T) (left : List (List ℕ) → Bool) (R : Told → Told → Type 0) (old mid new : DiskState) (r : Result T CleanErr) (s : Result U StoreErr) → r ≡ Ok t → IfErr s IsFinished
    → BothTold (Removes most_left_overs left r) old.told mid.told → BothTold R mid.told new.told → Cleans left s old new
cleans_made T U t left R old mid new r s done finished removes then =
    told_then (Removes most_left_overs left r) R (λ d f. CleansSays left s d.places f.places)
    (λ c d f is next. few_says U left c.places f.places s finished (subst (λ x. Removes most_left_overs left x c d) done is).0) old.told mid.told new.told removes then

-- it was done in a part
pub cleans_later : (T U : Type 0) (t : T) (left : List (List ℕ) → Bool) (R : Told → Told → Type 0) (x y z : Option Told) (r : Result T StoreErr) (s : Result U StoreErr) → r ≡ Ok t → IfErr s IsFinished
    → BothTold (λ d e. CleansSays left r d.places e.places) x y → BothTold R x z → BothTold (λ d e. CleansSays left s d.places e.places) x z
cleans_later T U t left R None y None r s done finished cleans then = tt
cleans_later T U t left R None y (Some f) r s done finished cleans then = absurd then
cleans_later T U t left R (Some d) y None r s done finished cleans then = absurd then
cleans_later T U t left R (Some d) None (Some f) r s done finished cleans then = absurd cleans
cleans_later T U t left R (Some d) (Some e) (Some f) r s done finished cleans then = few_says U left d.places f.places s finished (subst (λ w. CleansSays left w d.places e.places) done cleans)

pub cleans_done : (T U : Type 0) (t : T) (u : U) (left : List (List ℕ) → Bool) (R : Told → Told → Type 0) (x y z : Option Told) (r : Result T StoreErr) (s : Result U StoreErr) → r ≡ Ok t → s ≡ Ok u
    → BothTold (λ d e. CleansSays left r d.places e.places) x y → BothTold R x z → BothTold (λ d e. CleansSays left s d.places e.places) x z
cleans_done T U t u left R x y z r s done is cleans then = cleans_later T U t left R x y z r s done (subst (λ w. IfErr w IsFinished) (sym is) tt) cleans then

cleans_again : (T U : Type 0) (left : List (List ℕ) → Bool) (e : StoreErr) (d f : Places) (r : Result T StoreErr) (s : Result U StoreErr) → r ≡ Err e → s ≡ Err e → CleansSays left r d f → CleansSays left s d f
cleans_again T U left e d f r s one two cleans = both e (subst (λ x. CleansSays left x d f) one cleans) s two
  where
    both : (x : StoreErr) → (let y : Result T StoreErr = Err x in CleansSays left y d f) → (z : Result U StoreErr) → z ≡ Err x → CleansSays left z d f
    both (Fault OutOfMemory) says z is = subst (λ x. CleansSays left x d f) (sym is) says
    both (Fault DiskFault) says z is = subst (λ x. CleansSays left x d f) (sym is) says
    both (Fault DepotFault) says z is = subst (λ x. CleansSays left x d f) (sym is) says
    both (Broken line) says z is = subst (λ x. CleansSays left x d f) (sym is) says
    both (Fault (Damaged damage)) says z is = subst (λ x. CleansSays left x d f) (sym is) says
    both (Mismatch path listed found) says z is = subst (λ x. CleansSays left x d f) (sym is) says
    both (NotInDepot path) says z is = subst (λ x. CleansSays left x d f) (sym is) says
    both Unfinished says z is = subst (λ x. CleansSays left x d f) (sym is) says
    both (Limit which) says z is = subst (λ x. CleansSays left x d f) (sym is) says

-- an error that another part handed on says the same
pub cleans_handed : (T U : Type 0) (left : List (List ℕ) → Bool) (e : StoreErr) (old new : DiskState) (r : Result T StoreErr) (s : Result U StoreErr) → r ≡ Err e → s ≡ Err e → Cleans left r old new
    → Cleans left s old new
cleans_handed T U left e old new r s one two cleans =
    told_map (λ d f. CleansSays left r d.places f.places) (λ d f. CleansSays left s d.places f.places) (λ d f is. cleans_again T U left e d.places f.places r s one two is) old.told new.told cleans
