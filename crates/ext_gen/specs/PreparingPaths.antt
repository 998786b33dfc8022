-- The paths at which a change makes something before its last move, and what the parts of a change leave there.
use Rattle.std.specs.Prelude.{◌≡◌, ◌⊎◌, ℕ, ◌<◌, Bool, true, not, ◌&&◌, ◌||◌, List, None, Result, Ok, Err}
use Rattle.std.specs.Option.{is_some}
use Rattle.ext_text.specs.Path.{is_prefix}
use Rattle.ext_disk.specs.Disk.{Places, Told, DiskState, BothTold}
use Rattle.ext_disk.specs.Fixed.{Spares}
use Rattle.ext_store_files.specs.Appended.{RaisesWithin}
use Rattle.ext_store_files.specs.LeftOvers.{is_left_path, most_left_overs}
use Rattle.ext_store_files.specs.Names.{generation_path, home_folder, home_path, index_path, next_path}
use Rattle.ext_store_files.specs.Removal.{AtMost, Loses, MoreThan}
use Rattle.ext_store_files.specs.declared.fault.StoreFault.TheVariants.{OutOfMemory, DiskFault, DepotFault, Damaged}
use Rattle.ext_gen.specs.declared.errors.StoreErr.{StoreErr}
use Rattle.ext_gen.specs.declared.errors.StoreErr.TheVariants.{Fault, Broken, Mismatch, NotInDepot, Unfinished, Limit}

-- a path at or below the folder of the coming generation, or at or below `next`
abbrev pub is_coming : ℕ → List (List ℕ) → Bool
is_coming n p = is_prefix (generation_path n) p || is_prefix next_path p

-- one of the paths at which a change makes something: `next`, the folder of the coming generation, its index, and so many files
-- of it, the first by their numbers, with the folders of these
pub data IsComing (n files : ℕ) : List (List ℕ) → Type 0 where
  next : IsComing n files next_path
  generation : IsComing n files (generation_path n)
  index : IsComing n files (index_path n)
  folder : (k : ℕ) → k < files → IsComing n files (home_folder n k)
  file : (k : ℕ) → k < files → IsComing n files (home_path n k)

-- what stands changes at those paths alone, and no more than so many bytes were appended
pub record MakesTold (n files most : ℕ) (d e : Told) : Type 0 where
  pub now : (p : List (List ℕ)) → ((e.places p).node ≡ (d.places p).node) ⊎ IsComing n files p
  pub appended : RaisesWithin most d.appended e.appended

-- what is out of the coming generation's reach stays as it was
pub record Makes (n files most : ℕ) (old new : DiskState) : Type 0 where
  pub spares : Spares (is_coming n) old new
  pub told : BothTold (MakesTold n files most) old.told new.told

-- at a path stands what stood there; or nothing, where it is a left-over's; or it is one at which the change makes something
pub data ChangesAt (left : List (List ℕ) → Bool) (n files : ℕ) (d e : Places) (p : List (List ℕ)) : Type 0 where
  stays : (e p).node ≡ (d p).node → ChangesAt left n files d e p
  gone : left p ≡ true → (e p).node ≡ None → ChangesAt left n files d e p
  made : IsComing n files p → ChangesAt left n files d e p

-- and no more than so many bytes were appended
pub record ChangesTold (left : List (List ℕ) → Bool) (n files most : ℕ) (d e : Told) : Type 0 where
  pub now : (p : List (List ℕ)) → ChangesAt left n files d.places e.places p
  pub appended : RaisesWithin most d.appended e.appended

-- what is out of reach stays as it was: each path that is no left-over's nor below one
pub record Changes (needed : ℕ → Bool) (n files most : ℕ) (old new : DiskState) : Type 0 where
  pub spares : Spares (is_left_path needed) old new
  pub told : BothTold (ChangesTold (is_left_path needed) n files most) old.told new.told

-- something stood at the left-over's path, or below that, and is gone
abbrev pub is_gone : (List (List ℕ) → Bool) → Places → List (List ℕ) → Bool
is_gone left e p = left p && not (is_some (e p).node)

-- of what stood at and below left-overs at most so many are gone
abbrev pub FewGone : (List (List ℕ) → Bool) → Places → Places → Type 0
FewGone left d e = AtMost most_left_overs (is_gone left e) d

-- They were few enough for each answer that comes after their removal. They were too many where that is unfinished, and so many
-- are gone then. Never are more.
abbrev pub CleansSays : {T : Type 0} → (List (List ℕ) → Bool) → Result T StoreErr → Places → Places → Type 0
CleansSays left (Ok done) d e = AtMost most_left_overs left d
CleansSays left (Err (Fault OutOfMemory)) d e = FewGone left d e
CleansSays left (Err (Fault DiskFault)) d e = FewGone left d e
CleansSays left (Err (Fault DepotFault)) d e = AtMost most_left_overs left d
CleansSays left (Err (Broken line)) d e = Unit {0}
CleansSays left (Err (Fault (Damaged damage))) d e = AtMost most_left_overs left d
CleansSays left (Err (Mismatch path listed found)) d e = AtMost most_left_overs left d
CleansSays left (Err (NotInDepot path)) d e = AtMost most_left_overs left d
CleansSays left (Err Unfinished) d e = MoreThan most_left_overs left d × Loses left d e (λ n. n ≡ most_left_overs)
CleansSays left (Err (Limit which)) d e = Unit {0}

-- what a preparation does to left-overs, on disks that tell
abbrev pub Cleans : {T : Type 0} → (List (List ℕ) → Bool) → Result T StoreErr → DiskState → DiskState → Type 0
Cleans left r old new = BothTold (λ d e. CleansSays left r d.places e.places) old.told new.told
