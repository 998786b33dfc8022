-- What the search for units keeps, visit by visit.
use Rattle.std.specs.Prelude.{◌≡◌, ◌⊎◌, ℕ, ◌<◌, true, if◌then◌else◌, List, [], ◌∷◌, ◌++◌, IsTrue, Option, Some, None, is_some, slice_get}
use Rattle.std.specs.Borrow.{Bor}
use Rattle.std.specs.BTreeMap.{BTreeMap, get, is_at}
use Rattle.ext_lines.specs.ByteOrder.{bytes_cmp}
use Rattle.ext_tree.specs.Tree.{Entries, lookup}
use Rattle.ext_walk.specs.Leads.{LeadsTo}
use Rattle.ext_walk.specs.Walk.{Ends, parts}
use Rattle.ext_find.specs.Content.{is_file_at}
use Rattle.ext_units.specs.Units.{HasEntryAt, IsFirstEntry, IsUnitName, unit_directories}
use Rattle.ext_units.specs.declared.unit_entry.UnitEntry.{UnitEntry}
use Rattle.ext_units.specs.declared.unit_entry.UnitEntry.TheVariants.{NoFile, Leads}
use Rattle.ext_units.specs.declared.unit_file.UnitFile.{UnitFile}

-- the text of the directory of units with this index, or that there is none
abbrev pub IsDirectoryText : ℕ → Option (Bor (List ℕ)) → Type 0
IsDirectoryText index None = slice_get unit_directories index ≡ None
IsDirectoryText index (Some text) = slice_get unit_directories index ≡ Some (parts text.now)

-- the path of the file to which names lead, or that they lead to none
abbrev pub FileAt : {C : Type 0} → Entries C → List (List ℕ) → Option (List (List ℕ)) → Type 0
FileAt es names None = ¬ LeadsTo is_file_at es names
FileAt es names (Some file) = Ends es names file × (is_file_at (lookup es file) ≡ true)

-- what the entry at the path says: the file to which it leads, or that it leads to none
abbrev pub SaysOfUnit : {C : Type 0} → Entries C → List (List ℕ) → UnitEntry → Type 0
SaysOfUnit es path NoFile = FileAt es path None
SaysOfUnit es path (Leads file) = FileAt es path (Some file)

-- what the entry of the directory says where it has the name of a unit, or that it hasn't
abbrev pub EntryAt : {C : Type 0} → Entries C → List (List ℕ) → List (List ℕ) → List ℕ → Option UnitEntry → Type 0
EntryAt es prefixes directory name None = ¬ IsUnitName prefixes name
EntryAt es prefixes directory name (Some entry) = IsUnitName prefixes name × SaysOfUnit es (directory ++ name ∷ []) entry

-- what is kept for a name
abbrev pub kept_for : BTreeMap (List ℕ) UnitEntry → List ℕ → Option UnitEntry
kept_for m name = get bytes_cmp m name

-- what an entry says is kept where its name has none
abbrev pub KeepsEntry : BTreeMap (List ℕ) UnitEntry → BTreeMap (List ℕ) UnitEntry → List ℕ → Option UnitEntry → Type 0
KeepsEntry old new name None = (q : List ℕ) → kept_for new q ≡ kept_for old q
KeepsEntry old new name (Some entry) =
    (q : List ℕ) → kept_for new q
    ≡ (if is_some (kept_for old name) then kept_for old q
    else if is_at (bytes_cmp name) q then Some entry
    else kept_for old q)

-- what the entry of the directory says is kept where it has the name of a unit, and that name has none
pub record KeepsNext {C : Type 0} (es : Entries C) (prefixes directory : List (List ℕ)) (name : List ℕ)
    (old new : BTreeMap (List ℕ) UnitEntry) : Type 0 where
  pub entry : Option UnitEntry
  pub says : EntryAt es prefixes directory name entry
  pub keeps : KeepsEntry old new name entry

-- the entries of the directories before one
abbrev pub earlier_entries : ℕ → ℕ → List ℕ → Type 0
earlier_entries index visited name = visited < index

-- and those of this one whose names are not left
abbrev pub visited_entries : {C : Type 0} → ℕ → List (List ℕ) → Entries C → ℕ → List ℕ → Type 0
visited_entries index directory rest visited name = (visited < index) ⊎ ((visited ≡ index) × (lookup rest (directory ++ name ∷ []) ≡ None))

-- the unit of this name, where its entry leads to a file
abbrev pub unit_with : List ℕ → UnitEntry → Option UnitFile
unit_with name NoFile = None
unit_with name (Leads file) = Some (record { name = name; file = file })

module _ {C : Type 0} (es : Entries C) (prefixes : List (List ℕ)) where
  -- what the first entry of this name says, which is that of a unit
  pub record SaysFirst (name : List ℕ) (entry : UnitEntry) : Type 0 where
    pub is_name : IsUnitName prefixes name
    pub index : ℕ
    pub first : IsFirstEntry es index name
    pub says : SaysOfUnit es (first.entry.directory ++ name ∷ []) entry

  -- after the visits that were made
  pub record KeepsUnits (made : ℕ → List ℕ → Type 0) (m : BTreeMap (List ℕ) UnitEntry) : Type 0 where
    pub kept : (name : List ℕ) (entry : UnitEntry) → kept_for m name ≡ Some entry → SaysFirst name entry
    pub all : (index : ℕ) (name : List ℕ) → made index name → IsUnitName prefixes name → HasEntryAt es index name
        → IsTrue (is_some (kept_for m name))
