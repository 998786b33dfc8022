-- The laws of portable services and their units.
use Rattle.std.specs.Prelude.{◌≡◌, ℕ, List, [], ◌∷◌, ◌++◌, Contains, Result, Ok, Err}
use Rattle.std.specs.List.Sorted.{IsStrictlySortedBy}
use Rattle.ext_lines.specs.ByteOrder.{bytes_cmp}
use Rattle.ext_text.specs.declared.arch.Arch.{Arch}
use Rattle.ext_tree.specs.Tree.{Entries}
use Rattle.ext_walk.specs.Leads.{LeadsTo}
use Rattle.ext_walk.specs.Walk.{Ends}
use Rattle.ext_host.specs.Held.{HeldFile}
use Rattle.ext_host.specs.Shelf.{Told}
use Rattle.ext_find.specs.Content.{is_file_at}
use Rattle.ext_find.specs.HostRelease.{IsGiven}
use Rattle.ext_units.specs.Body.{ReadsImage}
use Rattle.ext_units.specs.Choosing.{ChoosesUnits}
use Rattle.ext_units.specs.Inspecting.{Inspects}
use Rattle.ext_units.specs.Units.{AreUnits, HasPrefix, IsFirstEntry, names_of}
use Rattle.ext_units.specs.declared.body.Body.{Body}
use Rattle.ext_units.specs.declared.errors.BodyErr.{BodyErr}
use Rattle.ext_units.specs.declared.errors.BodyErr.TheVariants as body_errors
use Rattle.ext_units.specs.declared.errors.InspectErr.{InspectErr}
use Rattle.ext_units.specs.declared.errors.InspectErr.TheVariants as errors
use Rattle.ext_units.specs.declared.errors.UnitsErr.{UnitsErr}
use Rattle.ext_units.specs.declared.errors.UnitsErr.TheVariants as units_errors
use Rattle.ext_units.specs.declared.image.Image.{Image}
use Rattle.ext_units.specs.declared.inspected.Inspect.{Inspect}
use Rattle.ext_units.specs.declared.unit_file.UnitFile.{UnitFile}

-- a shelf gives one text of each file
abbrev pub GivesOneText : (HeldFile → Told) → Type 0
GivesOneText told = (held : HeldFile) (a b : List ℕ) → IsGiven (told held) held a → IsGiven (told held) held b → a ≡ b

-- an image, or what is wrong with it: neither want of memory nor an error of the shelf
abbrev pub IsOfImage : Result Body BodyErr → Type 0
IsOfImage (Ok body) = Unit {0}
IsOfImage (Err body_errors.OutOfMemory) = ⊥
IsOfImage (Err body_errors.NoSuchImage) = Unit {0}
IsOfImage (Err body_errors.NotPortable) = Unit {0}
IsOfImage (Err (body_errors.BadRelease line)) = Unit {0}
IsOfImage (Err (body_errors.Shelf e)) = ⊥

-- units, or why there are none: no want of memory
abbrev pub IsOfUnits : Result (List UnitFile) UnitsErr → Type 0
IsOfUnits (Ok units) = Unit {0}
IsOfUnits (Err units_errors.OutOfMemory) = ⊥
IsOfUnits (Err (units_errors.PrefixForbidden prefix)) = Unit {0}
IsOfUnits (Err units_errors.NoUnits) = Unit {0}

-- what is told of a service, or what is wrong with it: neither want of memory nor an error of the shelf
abbrev pub IsOfService : Result Inspect InspectErr → Type 0
IsOfService (Ok inspect) = Unit {0}
IsOfService (Err errors.OutOfMemory) = ⊥
IsOfService (Err errors.NoSuchImage) = Unit {0}
IsOfService (Err errors.NotPortable) = Unit {0}
IsOfService (Err (errors.BadRelease line)) = Unit {0}
IsOfService (Err (errors.PrefixForbidden prefix)) = Unit {0}
IsOfService (Err errors.NoUnits) = Unit {0}
IsOfService (Err (errors.Shelf e)) = ⊥

-- a base has one image for each name and path, or one thing that is wrong first
abbrev pub OneImage : Type 0
OneImage =
    (told : HeldFile → Told) (old new other_old other_new : ℕ) (base : Entries HeldFile) (arch : Arch) (image : Image)
    (a b : Result Body BodyErr)
    → GivesOneText told
    → IsOfImage a
    → IsOfImage b
    → ReadsImage told old new base arch image a
    → ReadsImage told other_old other_new base arch image b
    → a ≡ b

-- an image has one choice of units in a tree, or one reason why it has none
abbrev pub OneChoice : Type 0 → Type 0
OneChoice C =
    (body : Body) (es : Entries C) (given : List (List ℕ)) (a b : Result (List UnitFile) UnitsErr)
    → IsOfUnits a
    → IsOfUnits b
    → ChoosesUnits body es given a
    → ChoosesUnits body es given b
    → a ≡ b

-- one thing is told of a service
abbrev pub OneInspect : Type 0
OneInspect =
    (told : HeldFile → Told) (old new other_old other_new : ℕ) (base : Entries HeldFile) (arch : Arch) (image : Image)
    (given : List (List ℕ)) (a b : Result Inspect InspectErr)
    → GivesOneText told
    → IsOfService a
    → IsOfService b
    → Inspects told old new base arch image given a
    → Inspects told other_old other_new base arch image given b
    → a ≡ b

-- a tree has one list of units of some prefixes
abbrev pub OneUnits : Type 0 → Type 0
OneUnits C =
    (es : Entries C) (prefixes : List (List ℕ)) (units other : List UnitFile)
    → AreUnits es prefixes units
    → AreUnits es prefixes other
    → units ≡ other

-- the names of units ascend by their bytes
abbrev pub UnitsAscend : Type 0 → Type 0
UnitsAscend C =
    (es : Entries C) (prefixes : List (List ℕ)) (units : List UnitFile)
    → AreUnits es prefixes units
    → IsStrictlySortedBy bytes_cmp (names_of units)

-- each unit has one of the prefixes
abbrev pub UnitsHavePrefixes : Type 0 → Type 0
UnitsHavePrefixes C =
    (es : Entries C) (prefixes : List (List ℕ)) (units : List UnitFile) (unit : UnitFile)
    → AreUnits es prefixes units
    → Contains units unit
    → HasPrefix prefixes unit.name

-- a unit leads where the first entry of its name does, whatever later directories have
abbrev pub FirstEntryDecides : Type 0 → Type 0
FirstEntryDecides C =
    (es : Entries C) (prefixes : List (List ℕ)) (units : List UnitFile) (unit : UnitFile) (index : ℕ)
    → AreUnits es prefixes units
    → Contains units unit
    → (first : IsFirstEntry es index unit.name)
    → Ends es (first.entry.directory ++ unit.name ∷ []) unit.file

-- and where that entry leads to no file, as a whiteout, there is no unit of the name
abbrev pub FirstEntryHides : Type 0 → Type 0
FirstEntryHides C =
    (es : Entries C) (prefixes : List (List ℕ)) (units : List UnitFile) (index : ℕ) (name : List ℕ)
    → AreUnits es prefixes units
    → (first : IsFirstEntry es index name)
    → ¬ LeadsTo is_file_at es (first.entry.directory ++ name ∷ [])
    → (unit : UnitFile) → Contains units unit → ¬ (unit.name ≡ name)
