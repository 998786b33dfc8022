-- The units of a portable service, after portablectl(1): units of the image whose names begin with a prefix. The directories are
-- three of those of systemd.unit(5). Which of them counts first, and that the first entry of a name decides whatever it is, is this
-- project's own.
use Rattle.std.specs.Prelude.{◌≡◌, ℕ, ◌<◌, nat_eq, Bool, true, ◌||◌, ◌==◌, List, [], ◌∷◌, ◌++◌, codes, map, IsTrue, Some, is_some, slice_get}
use Rattle.std.specs.FinMap.{find, is_sorted}
use Rattle.std.specs.List.{ends_with}
use Rattle.ext_lines.specs.ByteOrder.{bytes_cmp}
use Rattle.ext_tree.specs.Tree.{Entries, lookup, is_directory_or_root}
use Rattle.ext_walk.specs.Walk.{Ends}
use Rattle.ext_find.specs.Content.{is_file_at}
use Rattle.ext_units.specs.TextSet.{is_one_of}
use Rattle.ext_units.specs.declared.unit_file.UnitFile.{UnitFile}

-- the name of a service, a socket, a target, a timer or a path
abbrev pub has_unit_suffix : List ℕ → Bool
has_unit_suffix name =
    ends_with nat_eq name (codes ".service")
    || ends_with nat_eq name (codes ".socket")
    || ends_with nat_eq name (codes ".target")
    || ends_with nat_eq name (codes ".timer")
    || ends_with nat_eq name (codes ".path")

-- `-`, `.` or `@`
abbrev pub is_unit_separator : ℕ → Bool
is_unit_separator b = b == 45 || b == 46 || b == 64

-- the name begins with one of the prefixes and a separator
pub record HasPrefix (prefixes : List (List ℕ)) (name : List ℕ) : Type 0 where
  pub prefix : List ℕ
  pub among : IsTrue (is_one_of prefixes prefix)
  pub separator : ℕ
  pub separates : IsTrue (is_unit_separator separator)
  pub rest : List ℕ
  pub whole : name ≡ prefix ++ separator ∷ rest

-- the name of a unit of these prefixes
pub record IsUnitName (prefixes : List (List ℕ)) (name : List ℕ) : Type 0 where
  pub suffix : IsTrue (has_unit_suffix name)
  pub has_prefix : HasPrefix prefixes name

-- the directories of units, the first of which counts most
abbrev pub unit_directories : List (List (List ℕ))
unit_directories =
    (codes "etc" ∷ codes "systemd" ∷ codes "system" ∷ [])
    ∷ (codes "usr" ∷ codes "local" ∷ codes "lib" ∷ codes "systemd" ∷ codes "system" ∷ [])
    ∷ (codes "usr" ∷ codes "lib" ∷ codes "systemd" ∷ codes "system" ∷ [])
    ∷ []

module _ {C : Type 0} (es : Entries C) where
  -- the directory of units with this index, counted from 0, leads there, to a directory
  pub record OpensUnits (index : ℕ) (directory : List (List ℕ)) : Type 0 where
    pub path : List (List ℕ)
    pub searched : slice_get unit_directories index ≡ Some path
    pub leads : Ends es path directory
    pub open_ : IsTrue (is_directory_or_root es directory)

  -- it has an entry of this name, be it a whiteout
  pub record HasEntryAt (index : ℕ) (name : List ℕ) : Type 0 where
    pub directory : List (List ℕ)
    pub opens : OpensUnits index directory
    pub there : IsTrue (is_some (lookup es (directory ++ name ∷ [])))

  -- and no directory before it has one
  pub record IsFirstEntry (index : ℕ) (name : List ℕ) : Type 0 where
    pub entry : HasEntryAt index name
    pub first : (earlier : ℕ) → earlier < index → ¬ HasEntryAt earlier name

  -- the first entry of this name leads to the file, and the name is that of a unit of these prefixes
  pub record IsUnit (prefixes : List (List ℕ)) (name : List ℕ) (file : List (List ℕ)) : Type 0 where
    pub is_name : IsUnitName prefixes name
    pub index : ℕ
    pub first : IsFirstEntry index name
    pub leads : Ends es (first.entry.directory ++ name ∷ []) file
    pub is_file : is_file_at (lookup es file) ≡ true

-- the names of units, in their order
abbrev pub names_of : List UnitFile → List (List ℕ)
names_of units = map (λ unit. unit.name) units

-- the files of units with the names of these as keys
abbrev pub units_by_name : List UnitFile → List (List ℕ × List (List ℕ))
units_by_name units = map (λ unit. (unit.name, unit.file)) units

-- the units of a tree that have one of the prefixes, each once, by the bytes of their names
pub record AreUnits {C : Type 0} (es : Entries C) (prefixes : List (List ℕ)) (units : List UnitFile) : Type 0 where
  pub sorted : IsTrue (is_sorted bytes_cmp (units_by_name units))
  pub each : (name : List ℕ) (file : List (List ℕ)) → find bytes_cmp name (units_by_name units) ≡ Some file → IsUnit es prefixes name file
  pub whole : (name : List ℕ) (file : List (List ℕ)) → IsUnit es prefixes name file → find bytes_cmp name (units_by_name units) ≡ Some file
