-- Making, writing and syncing things of the store: what changes, and what stands afterwards.
use Rattle.std.specs.Prelude.{◌≡◌, ℕ, Bool, true, false, List, [], ◌∷◌, ◌++◌, None, Some, IfSome}
use Rattle.std.specs.Ordering.{eq_by_cmp}
use Rattle.ext_text.specs.Path.{path_cmp, is_proper_prefix}
use Rattle.ext_disk.specs.Disk.{folder, file, Places, Told, DiskState, BothTold, is_synced, is_durable, at_prefixes}
use Rattle.ext_disk.specs.Fixed.{Spares}
use Rattle.ext_store_files.specs.Appended.{RaisesWithin}

-- the path itself
abbrev pub is_at : List (List ℕ) → List (List ℕ) → Bool
is_at path p = eq_by_cmp path_cmp path p

-- no path
abbrev pub nowhere : List (List ℕ) → Bool
nowhere p = false

-- what stands changes at these paths alone, and no more than so many bytes were appended
pub record WorksTold (at : List (List ℕ) → Bool) (most : ℕ) (d e : Told) : Type 0 where
  pub now : (p : List (List ℕ)) → at p ≡ false → (e.places p).node ≡ (d.places p).node
  pub appended : RaisesWithin most d.appended e.appended

-- what is made of calls that make and write: what is out of reach stays as it was, and what stands changes at some paths alone
pub record Works (reach at : List (List ℕ) → Bool) (most : ℕ) (old new : DiskState) : Type 0 where
  pub spares : Spares reach old new
  pub told : BothTold (WorksTold at most) old.told new.told

-- an empty folder
pub record IsMade (path : List (List ℕ)) (e : Places) : Type 0 where
  pub node : (e path).node ≡ Some folder
  pub hard : (e path).unsynced_bytes ≡ false
  pub empty : (p : List (List ℕ)) → is_proper_prefix path p ≡ true → (e p).node ≡ None

-- a file of these bytes, which are synced
pub record IsWritten (path : List (List ℕ)) (bytes : List ℕ) (e : Places) : Type 0 where
  pub node : (e path).node ≡ Some (file bytes)
  pub hard : (e path).unsynced_bytes ≡ false

-- a file of these bytes, synced or not
abbrev pub IsFileWith : List (List ℕ) → List ℕ → Places → Type 0
IsFileWith path bytes e = (e path).node ≡ Some (file bytes)

-- it holds of what is told
abbrev pub Holds : (Places → Type 0) → DiskState → Type 0
Holds P state = IfSome state.told (λ d. P d.places)

-- no prefix of the path, itself counted, has an unsynced name or rename
abbrev pub is_synced_to : Places → List (List ℕ) → Bool
is_synced_to d p = at_prefixes (λ q. is_synced (d q)) p

-- each name directly in the folder is synced. Where the folder is synced itself, up to the root, what stands there is durable,
-- but for a file whose bytes are not synced
pub record SyncsIn (dir : List (List ℕ)) (d e : Told) : Type 0 where
  pub names : (n : List ℕ) → is_synced (e.places (dir ++ n ∷ [])) ≡ true
  pub durable : is_synced_to d.places dir ≡ true → (n : List ℕ)
      → (is_synced_to e.places (dir ++ n ∷ []) ≡ true) × ((d.places (dir ++ n ∷ [])).unsynced_bytes ≡ false → is_durable e.places (dir ++ n ∷ []) ≡ true)

-- a file has more bytes
abbrev pub Appends : List (List ℕ) → List ℕ → Told → Told → Type 0
Appends path piece d e = (bytes : List ℕ) → (d.places path).node ≡ Some (file bytes) → (e.places path).node ≡ Some (file (bytes ++ piece))
