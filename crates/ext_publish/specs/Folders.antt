-- Folders of the depot that are made where they are missing, and their parents synced at once.
use Rattle.std.specs.Prelude.{◌≡◌, ◌⊎◌, ℕ, true, false, List, ◌++◌, None, Some, IfSome, Result, Ok, Err}
use Rattle.std.specs.Option.{is_some}
use Rattle.std.specs.Ordering.{eq_by_cmp}
use Rattle.ext_text.specs.Path.{is_prefix, path_cmp}
use Rattle.ext_disk.specs.Disk.{Places, Told, DiskState, BothTold, folder, is_file, is_synced, now}
use Rattle.ext_disk.specs.Fixed.{IsUnchangedAt}
use Rattle.ext_disk.specs.Since.{Follows}
use Rattle.ext_publish.specs.Out.{first_file, first_missing, is_at_or_below}
use Rattle.ext_publish.specs.declared.stop.Stop.{Stop}

-- neither the name of a path nor its bytes are unsynced
pub record IsCalmAt (d : Places) (p : List (List ℕ)) : Type 0 where
  pub synced : is_synced (d p) ≡ true
  pub hard : (d p).unsynced_bytes ≡ false

-- the folder above stands, and no file where one is to be made
abbrev pub MayMake : List (List ℕ) → List (List ℕ) → DiskState → Type 0
MayMake above path state = IfSome state.told (λ d. ((d.places above).node ≡ Some folder) × (is_file (d.places path).node ≡ false))

-- a folder stands there, which was made or not, and one that was made is synced; what stood stays, and what was synced is so still
pub record IsMadeIn (path : List (List ℕ)) (d e : Places) : Type 0 where
  pub there : (e path).node ≡ Some folder
  pub others : (p : List (List ℕ)) → eq_by_cmp path_cmp path p ≡ false → (e p).node ≡ (d p).node
  pub keeps : (p : List (List ℕ)) → is_some (d p).node ≡ true → (e p).node ≡ (d p).node
  pub calm : (p : List (List ℕ)) → IsCalmAt d p → IsCalmAt e p
  pub hard : (p : List (List ℕ)) → (d p).unsynced_bytes ≡ false → (e p).unsynced_bytes ≡ false
  pub fresh : (p : List (List ℕ)) → (d p).node ≡ None → (e p).node ≡ Some folder → IsCalmAt e p

-- where it is done, so it is
abbrev pub EndsMade : {T : Type 0} → List (List ℕ) → Result T Stop → Places → Places → Type 0
EndsMade path (Ok _) d e = IsMadeIn path d e
EndsMade path (Err stop) d e = Unit {0}

-- nothing changes where the folder stood, and else nothing but at and below it
pub record MakesFolderTold {T : Type 0} (path : List (List ℕ)) (result : Result T Stop) (d e : Told) : Type 0 where
  pub spares : (p : List (List ℕ)) → ((d.places path).node ≡ Some folder) ⊎ (is_prefix path p ≡ false) → IsUnchangedAt d e p
  pub ends : EndsMade path result d.places e.places

-- a folder is made where it is missing
pub record MakesFolder {T : Type 0} (path : List (List ℕ)) (result : Result T Stop) (old new : DiskState) : Type 0 where
  pub follows : Follows old new
  pub told : BothTold (MakesFolderTold path result) old.told new.told

-- the folder above stands, and no file on the way down by the names
abbrev pub MayMakeDown : List (List ℕ) → List (List ℕ) → DiskState → Type 0
MayMakeDown base names state = IfSome state.told (λ d. ((d.places base).node ≡ Some folder) × (first_file (now d.places) base names ≡ None))

-- a folder stands at the end of the way, and those that were made are synced; what stood stays, and nothing stands elsewhere than
-- on the way that did not
pub record IsMadeDown (end : List (List ℕ)) (d e : Places) : Type 0 where
  pub there : (e end).node ≡ Some folder
  pub others : (p : List (List ℕ)) → is_prefix p end ≡ false → (e p).node ≡ (d p).node
  pub keeps : (p : List (List ℕ)) → is_some (d p).node ≡ true → (e p).node ≡ (d p).node
  pub calm : (p : List (List ℕ)) → IsCalmAt d p → IsCalmAt e p
  pub hard : (p : List (List ℕ)) → (d p).unsynced_bytes ≡ false → (e p).unsynced_bytes ≡ false
  pub fresh : (p : List (List ℕ)) → (d p).node ≡ None → (e p).node ≡ Some folder → IsCalmAt e p

-- where it is done, so it is
abbrev pub EndsDown : {T : Type 0} → List (List ℕ) → Result T Stop → Places → Places → Type 0
EndsDown end (Ok _) d e = IsMadeDown end d e
EndsDown end (Err stop) d e = Unit {0}

-- nothing changes but at and below the first folder that is missing
pub record MakesDownTold {T : Type 0} (base names : List (List ℕ)) (result : Result T Stop) (d e : Told) : Type 0 where
  pub spares : (p : List (List ℕ)) → is_at_or_below (first_missing (now d.places) base names) p ≡ false → IsUnchangedAt d e p
  pub ends : EndsDown (base ++ names) result d.places e.places

-- the folders that are missing on the way down by the names are made
pub record MakesDown {T : Type 0} (base names : List (List ℕ)) (result : Result T Stop) (old new : DiskState) : Type 0 where
  pub follows : Follows old new
  pub told : BothTold (MakesDownTold base names result) old.told new.told
