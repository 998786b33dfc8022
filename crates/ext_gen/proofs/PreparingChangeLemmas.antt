-- The parts of a change together.
use Rattle.std.proofs.Common.{◌≡◌, ◌⊎◌, ℕ, ◌+◌, ◌≤◌, Bool, true, false, List, [], ◌∷◌, length, get_or, Option, Some, None, IfSome, refl, sym, ap, ◌∙◌, inl, inr, arith}
use Rattle.std.specs.List.{sum_by}
use Rattle.std.specs.Option.{is_some}
use Rattle.std.proofs.lemmas.Bool.{false≢true}
use Rattle.ext_depot.specs.Depot.{DepotState}
use Rattle.ext_disk.specs.Disk.{Places, Told, DiskState, BothTold}
use Rattle.ext_disk.specs.Fixed.{IsUnchangedAt, Spares}
use Rattle.ext_tree.specs.Tree.{Entries}
use Rattle.ext_tree.specs.declared.stamp.Stamp.{Stamp}
use Rattle.ext_host.specs.Drawn.{IsFileOf}
use Rattle.ext_host.specs.Held.{HeldFile}
use Rattle.ext_host.specs.declared.body.Body.TheVariants.{Kept}
use Rattle.ext_host.specs.declared.home.Home.{Home}
use Rattle.ext_host.specs.declared.host.Host.{Host}
use Rattle.ext_store_files.specs.Appended.{raised, RaisesTold, Raises}
use Rattle.ext_store_files.specs.HeldFiles.{node_told, told_at}
use Rattle.ext_store_files.specs.LeftOvers.{is_left_over, is_left_path}
use Rattle.ext_store_files.specs.Names.{IsGeneration, current_text, generation_name, generation_of, generation_path, home_path, next_name, next_path}
use Rattle.ext_store_files.specs.Writing.{Holds, IsMade}
use Rattle.ext_store_files.proofs.ForCallers.{holds_map, left_is, named_generation, raised_then, rose_since, told_then, within_none}
use Rattle.ext_homes.specs.Giving.{home_told, lists_kept, stored_by, trees_before}
use Rattle.ext_homes.specs.Placed.{IsHostPlaced, Stored}
use Rattle.ext_store_files.specs.declared.fault.StoreFault.TheVariants as store_faults
use Rattle.ext_store_files.specs.declared.fault.StoreFault.TheVariants.{OutOfMemory, DiskFault, DepotFault, Damaged}
use Rattle.ext_homes.specs.declared.errors.HomesErr.TheVariants as homes_errors
use Rattle.ext_gen.specs.Opened.{Generation, IsOpened}
use Rattle.ext_gen.specs.Preparing.{host_before, is_needed}
use Rattle.ext_gen.specs.PreparingCauses.{ChangeCause, ClearCause, FillCause, MoveCause}
use Rattle.ext_gen.specs.PreparingIndex.{coming_index}
use Rattle.ext_gen.specs.PreparingPaths.{IsComing, MakesTold, Makes, ChangesTold, Changes}
use Rattle.ext_gen.specs.PreparingStages.{CompletesGeneration, FillsTold, IsAbsent, IsFilled, IsGenerationOpen}
use Rattle.ext_gen.specs.PreparingWork.{ChangedTold}
use Rattle.ext_gen.specs.declared.errors.StoreErr.{StoreErr}
use Rattle.ext_gen.specs.declared.errors.StoreErr.TheVariants.{Fault, Broken, Mismatch, NotInDepot, Unfinished, Limit}
use Rattle.ext_gen.proofs.PreparingFilesLemmas.{file_needed, no_file_of_none, opened_home}
use Rattle.ext_gen.proofs.PreparingPathsLemmas.{not_true, top_coming}
use Rattle.ext_gen.proofs.PreparingPlacedLemmas.{AreSameListed, same_cause, same_host}
use Rattle.ext_gen.proofs.PreparingStagesLemmas.{both_with}

pub same_needed : (f g : ℕ → Bool) → ((n : ℕ) → f n ≡ g n) → f ≡ g
same_needed f g same = λ i. λ n. same n i

-- numbers of generations are told by their names
pub one_number : (m n : ℕ) → IsGeneration m → IsGeneration n → generation_name m ≡ generation_name n → m ≡ n
one_number m n one two same = some_is m n (sym (named_generation m one) ∙ ap generation_of same ∙ named_generation n two)
  where
    some_is : (x y : ℕ) → Some x ≡ Some y → x ≡ y
    some_is x y same = cc

pub not_next : (n : ℕ) → generation_name n ≡ next_name → ⊥
not_next n same = absurd (omega (arith, ap (λ (l : List ℕ). get_or l 0 0) same))

-- the name of a generation that is needed is no left-over's
pub needed_not_left : (needed : ℕ → Bool) (n : ℕ) → IsGeneration n → needed n ≡ true → is_left_over needed (generation_name n) ≡ false
needed_not_left needed n is need = not_true (is_left_over needed (generation_name n)) (λ left. one (left_is needed (generation_name n) left))
  where
    one : (generation_name n ≡ next_name) ⊎ ((m : ℕ) × IsGeneration m × (generation_name n ≡ generation_name m) × (needed m ≡ false)) → ⊥
    one (inl same) = not_next n same
    one (inr other) = false≢true (sym other.3 ∙ ap needed (sym (one_number n other.0 is other.1 other.2)) ∙ need)

told_unchanged : (reach : List (List ℕ) → Bool) (p : List (List ℕ)) → reach p ≡ false → (x y : Option Told) → BothTold (λ d e. (q : List (List ℕ)) → reach q ≡ false → IsUnchangedAt d e q) x y → told_at y p ≡ told_at x p
told_unchanged reach p out None None spares = refl
told_unchanged reach p out None (Some e) spares = absurd spares
told_unchanged reach p out (Some d) None spares = absurd spares
told_unchanged reach p out (Some d) (Some e) spares = ap node_told (spares p out).stays.node

home_not_left : (g : Generation) → IsOpened g → (stamp : Stamp) (home : Home) → IsFileOf (Rattle.ext_host.specs.Drawn.trees_of g.host) (record { stamp = stamp; body = Kept home })
    → is_left_path (is_needed (Some g)) (home_path home.generation home.file) ≡ false
home_not_left g opened stamp home is =
    let within = opened_home g opened (record { stamp = stamp; body = Kept home }) home is refl in
    needed_not_left (is_needed (Some g)) home.generation (omega (arith, within.first), omega (arith, within.last, opened.number.1))
    (file_needed g (record { stamp = stamp; body = Kept home }) home is refl)

-- the removal of left-overs leaves them
pub same_stored : (from : Option Generation) → IfSome from IsOpened → (old new : DiskState) → Spares (is_left_path (is_needed from)) old new
    → AreSameListed (lists_kept (trees_before (host_before from))) (home_told new) (home_told old)
same_stored None opened old new spares = record { same = λ stamp home is. absurd (no_file_of_none _ is) }
same_stored (Some g) opened old new spares = record {
  same = λ stamp home is. told_unchanged (is_left_path (is_needed (Some g))) (home_path home.generation home.file) (home_not_left g opened stamp home is) old.told new.told spares.told;
}

pub change_cause_clear : (e : StoreErr) (old new : DiskState) (before after : DepotState) (stored : Stored) (n : ℕ) (es : Entries HeldFile) → ClearCause old.faults new.faults e
    → ChangeCause old new before after stored n es e
change_cause_clear (Fault OutOfMemory) old new before after stored n es cause = tt
change_cause_clear (Fault DiskFault) old new before after stored n es cause = cause
change_cause_clear (Fault DepotFault) old new before after stored n es cause = absurd cause
change_cause_clear (Broken line) old new before after stored n es cause = absurd cause
change_cause_clear (Fault (Damaged damage)) old new before after stored n es cause = absurd cause
change_cause_clear (Mismatch path listed found) old new before after stored n es cause = absurd cause
change_cause_clear (NotInDepot path) old new before after stored n es cause = absurd cause
change_cause_clear Unfinished old new before after stored n es cause = tt
change_cause_clear (Limit which) old new before after stored n es cause = absurd cause

pub change_cause_fill : (from : Option Generation) → IfSome from IsOpened → (e : StoreErr) (old mid new : DiskState) (before after : DepotState) (n : ℕ) (es : Entries HeldFile)
    → Spares (is_left_path (is_needed from)) old mid → FillCause mid new before after (stored_by (host_before from) mid) n es e
    → ChangeCause old new before after (stored_by (host_before from) old) n es e
change_cause_fill from opened (Fault OutOfMemory) old mid new before after n es spares cause = tt
change_cause_fill from opened (Fault DiskFault) old mid new before after n es spares cause = rose_since old.faults mid.faults new.faults spares.follows.count cause
change_cause_fill from opened (Fault DepotFault) old mid new before after n es spares cause = cause
change_cause_fill from opened (Broken line) old mid new before after n es spares cause = absurd cause
change_cause_fill from opened (Fault (Damaged damage)) old mid new before after n es spares cause =
    same_cause (lists_kept (trees_before (host_before from))) (home_told mid) (home_told old) (same_stored from opened old mid spares) before before refl n es old mid new after
    (homes_errors.Fault (store_faults.Damaged damage)) spares.follows.count (omega arith) cause
change_cause_fill from opened (Mismatch path listed found) old mid new before after n es spares cause =
    same_cause (lists_kept (trees_before (host_before from))) (home_told mid) (home_told old) (same_stored from opened old mid spares) before before refl n es old mid new after
    (homes_errors.Mismatch path listed found) spares.follows.count (omega arith) cause
change_cause_fill from opened (NotInDepot path) old mid new before after n es spares cause =
    same_cause (lists_kept (trees_before (host_before from))) (home_told mid) (home_told old) (same_stored from opened old mid spares) before before refl n es old mid new after
    (homes_errors.NotInDepot path) spares.follows.count (omega arith) cause
change_cause_fill from opened Unfinished old mid new before after n es spares cause = absurd cause
change_cause_fill from opened (Limit which) old mid new before after n es spares cause = absurd cause

pub change_cause_write : (e : StoreErr) (old mid new : DiskState) (before after : DepotState) (stored : Stored) (n : ℕ) (es : Entries HeldFile) → old.faults ≤ mid.faults → MoveCause mid.faults new.faults e
    → ChangeCause old new before after stored n es e
change_cause_write (Fault OutOfMemory) old mid new before after stored n es earlier cause = tt
change_cause_write (Fault DiskFault) old mid new before after stored n es earlier cause = rose_since old.faults mid.faults new.faults earlier cause
change_cause_write (Fault DepotFault) old mid new before after stored n es earlier cause = absurd cause
change_cause_write (Broken line) old mid new before after stored n es earlier cause = absurd cause
change_cause_write (Fault (Damaged damage)) old mid new before after stored n es earlier cause = absurd cause
change_cause_write (Mismatch path listed found) old mid new before after stored n es earlier cause = absurd cause
change_cause_write (NotInDepot path) old mid new before after stored n es earlier cause = absurd cause
change_cause_write Unfinished old mid new before after stored n es earlier cause = absurd cause
change_cause_write (Limit which) old mid new before after stored n es earlier cause = absurd cause

pub open_made : (needed : ℕ → Bool) (n : ℕ) (s : DiskState) → Holds (IsGenerationOpen needed n) s → Holds (IsMade (generation_path n)) s
open_made needed n s is = holds_map (IsGenerationOpen needed n) (IsMade (generation_path n)) (λ d one. one.made) s.told is

pub open_no_next : (needed : ℕ → Bool) (n : ℕ) (s : DiskState) → Holds (IsGenerationOpen needed n) s → Holds (IsAbsent next_path) s
open_no_next needed n s is = holds_map (IsGenerationOpen needed n) (IsAbsent next_path) (λ d one. one.no_next) s.told is

-- directly in the store folder nothing of the left-overs is there but `next` and the coming generation
HasNames : (ℕ → Bool) → ℕ → Places → Type 0
HasNames needed n e = (name : List ℕ) → is_left_over needed name ≡ true → is_some (e (name ∷ [])).node ≡ true → (name ≡ next_name) ⊎ (name ≡ generation_name n)

names_open : (needed : ℕ → Bool) (n : ℕ) (e : Places) → IsGenerationOpen needed n e → HasNames needed n e
unfolding HasNames
names_open needed n e is = λ name left some. inr (ap (λ (p : List (List ℕ)). get_or p 0 []) (is.clear (name ∷ []) left some))

names_make : (needed : ℕ → Bool) (n files most : ℕ) (d e : Told) → MakesTold n files most d e → HasNames needed n d.places → HasNames needed n e.places
unfolding HasNames
names_make needed n files most d e makes names = λ name left some. one name left some (makes.now (name ∷ []))
  where
    one : (name : List ℕ) → is_left_over needed name ≡ true → is_some (e.places (name ∷ [])).node ≡ true → ((e.places (name ∷ [])).node ≡ (d.places (name ∷ [])).node) ⊎ IsComing n files (name ∷ [])
        → (name ≡ next_name) ⊎ (name ≡ generation_name n)
    one name left some (inl same) = names name left (ap is_some (sym same) ∙ some)
    one name left some (inr coming) = top_coming n files name coming

both_and : (R S Q : Told → Told → Type 0) → ((d e : Told) → R d e → S d e → Q d e) → (x y : Option Told) → BothTold R x y → BothTold S x y → BothTold Q x y
both_and R S Q gives None None one two = tt
both_and R S Q gives None (Some e) one two = absurd one
both_and R S Q gives (Some d) None one two = absurd one
both_and R S Q gives (Some d) (Some e) one two = gives d e one two

record OpensTold (needed : ℕ → Bool) (n : ℕ) (d e : Told) : Type 0 where
  appended : e.appended ≡ d.appended
  names : HasNames needed n e.places

record GoesOn (n files most : ℕ) (written : List (List ℕ)) (d e : Told) : Type 0 where
  fills : FillsTold n written d e
  makes : MakesTold n files most d e

record IsThere (needed : ℕ → Bool) (n : ℕ) (written : List (List ℕ)) (d e : Told) : Type 0 where
  filled : IsFilled n written e.places
  appended : e.appended ≡ raised d.appended (sum_by length written)
  names : HasNames needed n e.places

record MakesAndRaises (n most : ℕ) (d e : Told) : Type 0 where
  makes : MakesTold n 0 most d e
  raises : RaisesTold most d e

record GoesToEnd (n most : ℕ) (text : List ℕ) (d e : Told) : Type 0 where
  completes : CompletesGeneration n text d e
  makes : MakesTold n 0 most d e
  raises : RaisesTold most d e

changed_end : (needed : ℕ → Bool) (n : ℕ) (host : Host) (written : List (List ℕ)) (c d e : Told) → IsThere needed n written c d → GoesToEnd n (length (coming_index n host) + length (current_text n)) (coming_index n host) d e
    → ChangedTold needed n host written c e
unfolding HasNames
changed_end needed n host written c d e there ends = record {
  complete = ends.completes written there.filled;
  appended =
      let ours = length (coming_index n host) + length (current_text n) in
      ends.raises ∙ ap (λ k. raised k ours) there.appended ∙ raised_then c.appended (sum_by length written) ours;
  names = names_make needed n 0 (length (coming_index n host) + length (current_text n)) d e ends.makes there.names;
}

-- the left-overs were removed, the files written, and the last moves made
pub changed_told : (needed : ℕ → Bool) (n files most : ℕ) (host : Host) (written : List (List ℕ)) (r s t u : DiskState) → Changes needed n 0 0 r s → Holds (IsGenerationOpen needed n) s
    → BothTold (FillsTold n written) s.told t.told → Makes n files most s t
    → BothTold (CompletesGeneration n (coming_index n host)) t.told u.told → Makes n 0 (length (coming_index n host) + length (current_text n)) t u
    → Raises (length (coming_index n host) + length (current_text n)) t u → BothTold (ChangedTold needed n host written) r.told u.told
changed_told needed n files most host written r s t u opens is fills makes completes ends raises =
    told_then (IsThere needed n written) (GoesToEnd n (length (coming_index n host) + length (current_text n)) (coming_index n host)) (ChangedTold needed n host written)
    (changed_end needed n host written) r.told t.told u.told
    (told_then (OpensTold needed n) (GoesOn n files most written) (IsThere needed n written)
    (λ c d e one two. record { filled = two.fills.filled; appended = two.fills.appended ∙ ap (λ k. raised k (sum_by length written)) one.appended; names = names_make needed n files most d e two.makes one.names })
    r.told s.told t.told
    (both_with (ChangesTold (is_left_path needed) n 0 0) (OpensTold needed n) (IsGenerationOpen needed n)
    (λ d e changes one. record { appended = within_none d.appended e.appended changes.appended; names = names_open needed n e.places one }) r.told s.told opens.told is)
    (both_and (FillsTold n written) (MakesTold n files most) (GoesOn n files most written) (λ d e one two. record { fills = one; makes = two }) s.told t.told fills makes.told))
    (both_and (CompletesGeneration n (coming_index n host)) (MakesAndRaises n (length (coming_index n host) + length (current_text n)))
    (GoesToEnd n (length (coming_index n host) + length (current_text n)) (coming_index n host)) (λ d e one two. record { completes = one; makes = two.makes; raises = two.raises }) t.told u.told completes
    (both_and (MakesTold n 0 (length (coming_index n host) + length (current_text n))) (RaisesTold (length (coming_index n host) + length (current_text n)))
    (MakesAndRaises n (length (coming_index n host) + length (current_text n))) (λ d e one two. record { makes = one; raises = two }) t.told u.told ends.told raises))

-- the homes, seen from the disk at the beginning
pub homes_since : (from : Option Generation) → IfSome from IsOpened → (old mid : DiskState) (depot : DepotState) (n : ℕ) (next host : Host) (written : List (List ℕ)) → Spares (is_left_path (is_needed from)) old mid
    → IsHostPlaced (stored_by (host_before from) mid) depot n next host written → IsHostPlaced (stored_by (host_before from) old) depot n next host written
homes_since from opened old mid depot n next host written spares placed =
    same_host (lists_kept (trees_before (host_before from))) (home_told mid) (home_told old) (same_stored from opened old mid spares) depot depot refl n next host written placed
