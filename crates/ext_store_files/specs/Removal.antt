-- Removing what stands at and below some paths, of at most so many: which paths are gone, and what stands afterwards.
use Rattle.std.specs.Prelude.{◌≡◌, ℕ, ◌+◌, ◌≤◌, Bool, true, false, if◌then◌else◌, List, [], ◌∷◌, ◌++◌, length, None, Result, Ok, Err}
use Rattle.std.specs.List.{list_any}
use Rattle.std.specs.Option.{is_some}
use Rattle.std.specs.Ordering.{eq_by_cmp}
use Rattle.ext_text.specs.Causes.{Rose}
use Rattle.ext_text.specs.Path.{path_cmp, is_prefix}
use Rattle.ext_disk.specs.Disk.{Places, Told, DiskState, BothTold}
use Rattle.ext_disk.specs.Fixed.{Spares}
use Rattle.ext_disk.specs.declared.list_err.ListErr.{ListErr}
use Rattle.ext_disk.specs.declared.list_err.ListErr.TheVariants as list_errors
use Rattle.ext_store_files.specs.declared.errors.CleanErr.{CleanErr}
use Rattle.ext_store_files.specs.declared.errors.CleanErr.TheVariants.{DiskFault, OutOfMemory, Unfinished}

-- a folder that was not listed was not cleared, for the same reason
abbrev pub clean_err : ListErr → CleanErr
clean_err list_errors.Failed = DiskFault
clean_err list_errors.OutOfMemory = OutOfMemory

-- the path is one of these
abbrev pub is_one_of : List (List ℕ) → List (List (List ℕ)) → Bool
is_one_of p ps = list_any (eq_by_cmp path_cmp p) ps

-- none of the paths is there twice
abbrev pub AreDistinct : List (List (List ℕ)) → Type 0
AreDistinct [] = Unit {0}
AreDistinct (p ∷ ps) = (is_one_of p ps ≡ false) × AreDistinct ps

-- at each of the paths something stands, and each is within reach
abbrev pub AllStand : (List (List ℕ) → Bool) → Places → List (List (List ℕ)) → Type 0
AllStand reach d [] = Unit {0}
AllStand reach d (p ∷ ps) = (reach p ≡ true) × (is_some (d p).node ≡ true) × AllStand reach d ps

-- some of what stands within reach, each path once
pub record Stand (reach : List (List ℕ) → Bool) (d : Places) (ps : List (List (List ℕ))) : Type 0 where
  pub distinct : AreDistinct ps
  pub all : AllStand reach d ps

-- at or below the path of one of the names in a folder
abbrev pub is_below_any : List (List ℕ) → List (List ℕ) → List (List ℕ) → Bool
is_below_any dir names p = list_any (λ n. is_prefix (dir ++ n ∷ []) p) names

-- more than so many distinct paths stand within reach
abbrev pub MoreThan : ℕ → (List (List ℕ) → Bool) → Places → Type 0
MoreThan most reach d = (ps : List (List (List ℕ))) × Stand reach d ps × (length ps ≡ most + 1)

-- at most so many distinct paths stand within reach
abbrev pub AtMost : ℕ → (List (List ℕ) → Bool) → Places → Type 0
AtMost most reach d = (ps : List (List (List ℕ))) → Stand reach d ps → length ps ≤ most

-- these paths are gone, all of them within reach, and else nothing changed of what stands
pub record AreGone (reach : List (List ℕ) → Bool) (d e : Places) (gone : List (List (List ℕ))) : Type 0 where
  pub stood : Stand reach d gone
  pub now : (p : List (List ℕ)) → (e p).node ≡ (if is_one_of p gone then None else (d p).node)

-- so many paths within reach are gone, and else nothing changed of what stands
abbrev pub Loses : (List (List ℕ) → Bool) → Places → Places → (ℕ → Type 0) → Type 0
Loses reach d e count = (gone : List (List (List ℕ))) × AreGone reach d e gone × count (length gone)

-- nothing stands within reach
abbrev pub IsClear : (List (List ℕ) → Bool) → Places → Type 0
IsClear reach d = (p : List (List ℕ)) → reach p ≡ true → (d p).node ≡ None

-- it is done where no more than so many stood, and then all of it is gone; it is unfinished exactly where more stood, and
-- then so many are gone; at each other end at most so many are
abbrev pub Removes : ℕ → (List (List ℕ) → Bool) → {T : Type 0} → Result T CleanErr → Told → Told → Type 0
Removes most reach (Ok _) d e = AtMost most reach d.places × Loses reach d.places e.places (λ n. n ≤ most) × IsClear reach e.places
Removes most reach (Err Unfinished) d e = MoreThan most reach d.places × Loses reach d.places e.places (λ n. n ≡ most)
Removes most reach (Err DiskFault) d e = Loses reach d.places e.places (λ n. n ≤ most)
Removes most reach (Err OutOfMemory) d e = Loses reach d.places e.places (λ n. n ≤ most)

-- why not all was removed: a fault of the disk, no memory, or too much to remove
abbrev pub CleanCause : ℕ → ℕ → CleanErr → Type 0
CleanCause before after DiskFault = Rose before after
CleanCause before after OutOfMemory = Unit {0}
CleanCause before after Unfinished = Unit {0}

-- so many are gone. A failed removal of one path counts, though it may have removed nothing
abbrev pub CountsGone : {T : Type 0} → Result T CleanErr → ℕ → ℕ → ℕ → Type 0
CountsGone (Ok _) gone before after = gone + after ≡ before
CountsGone (Err Unfinished) gone before after = (gone + after ≡ before) × (after ≡ 0)
CountsGone (Err DiskFault) gone before after = gone + after ≤ before
CountsGone (Err OutOfMemory) gone before after = gone + after ≡ before

-- nothing stands within reach any more; or, where no more may be removed, something still does
abbrev pub EndsRemoval : {T : Type 0} → (List (List ℕ) → Bool) → Result T CleanErr → Places → Type 0
EndsRemoval reach (Ok _) e = IsClear reach e
EndsRemoval reach (Err Unfinished) e = (p : List (List ℕ)) × (reach p ≡ true) × (is_some (e p).node ≡ true)
EndsRemoval reach (Err DiskFault) e = Unit {0}
EndsRemoval reach (Err OutOfMemory) e = Unit {0}

-- nothing was appended
abbrev pub AppendsNothing : Told → Told → Type 0
AppendsNothing d e = e.appended ≡ d.appended

-- how a removal ends on a disk that tells
pub record ClearsTold {T : Type 0} (reach : List (List ℕ) → Bool) (result : Result T CleanErr) (before after : ℕ) (d e : Told) : Type 0 where
  pub gone : List (List (List ℕ))
  pub are : AreGone reach d.places e.places gone
  pub counts : CountsGone result (length gone) before after
  pub ends : EndsRemoval reach result e.places
  pub appended : AppendsNothing d e

-- a part of a removal, told or not: what is out of reach stays as it was
pub record Clears {T : Type 0} (reach : List (List ℕ) → Bool) (result : Result T CleanErr) (before after : ℕ) (old new : DiskState) : Type 0 where
  pub spares : Spares reach old new
  pub told : BothTold (ClearsTold reach result before after) old.told new.told
