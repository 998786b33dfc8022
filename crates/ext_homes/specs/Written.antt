-- What stands in the folder of a coming generation while its files are written: files 0, 1 and so on at their homes, in
-- folders of 256 each, and nothing else.
use Rattle.std.specs.Prelude.{◌≡◌, ℕ, ◌+◌, ◌<◌, ◌⊎◌, Bool, true, List, [], ◌∷◌, length, Some}
use Rattle.std.specs.List.{sum_by}
use Rattle.std.specs.Option.{is_some}
use Rattle.ext_text.specs.Path.{is_proper_prefix}
use Rattle.ext_disk.specs.Disk.{folder, Places, Told}
use Rattle.ext_store_files.specs.Names.{generation_path, home_folder, home_path}
use Rattle.ext_store_files.specs.Appended.{raised}
use Rattle.ext_store_files.specs.Writing.{IsWritten}

-- below the folder of the generation
abbrev pub is_below : ℕ → List (List ℕ) → Bool
is_below generation path = is_proper_prefix (generation_path generation) path

-- what stands there is a home of one of so many files, or its folder
abbrev pub HasOnlyHomes : ℕ → ℕ → Places → Type 0
HasOnlyHomes generation count e = (p : List (List ℕ)) → is_below generation p ≡ true → is_some (e p).node ≡ true
    → (k : ℕ) × (k < count) × ((p ≡ home_folder generation k) ⊎ (p ≡ home_path generation k))

-- the folder of the generation is there, with the folders of the homes of so many files, and nothing else
pub record HasHomes (generation count : ℕ) (e : Places) : Type 0 where
  pub root : (e (generation_path generation)).node ≡ Some folder
  pub folders : (k : ℕ) → k < count → (e (home_folder generation k)).node ≡ Some folder
  pub only : HasOnlyHomes generation count e

-- files of these bytes stand at the homes from this number on, and their bytes are synced
abbrev pub AreWritten : ℕ → ℕ → List (List ℕ) → Places → Type 0
AreWritten generation number [] e = Unit {0}
AreWritten generation number (bytes ∷ more) e = IsWritten (home_path generation number) bytes e × AreWritten generation (number + 1) more e

-- files of these bytes were written from this number on, and nothing else was appended; those before them stay
pub record Writes (generation number : ℕ) (written : List (List ℕ)) (d e : Told) : Type 0 where
  pub files : AreWritten generation number written e.places
  pub homes : HasHomes generation (number + length written) e.places
  pub earlier : (k : ℕ) (bytes : List ℕ) → k < number → IsWritten (home_path generation k) bytes d.places → IsWritten (home_path generation k) bytes e.places
  pub appended : e.appended ≡ raised d.appended (sum_by length written)
