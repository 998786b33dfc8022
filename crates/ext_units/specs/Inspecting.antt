-- What inspecting a portable service tells, after portablectl(1). What is told first where several things are wrong is this project's
-- own.
use Rattle.std.specs.Prelude.{◌≡◌, ℕ, List, codes, Result, Ok, Err}
use Rattle.std.specs.FinMap.{get}
use Rattle.ext_text.specs.declared.arch.Arch.{Arch}
use Rattle.ext_tree.specs.Tree.{Entries}
use Rattle.ext_host.specs.Held.{HeldFile}
use Rattle.ext_host.specs.Shelf.{Told}
use Rattle.ext_units.specs.Body.{ReadsImage}
use Rattle.ext_units.specs.Choosing.{ChoosesUnits}
use Rattle.ext_units.specs.Units.{names_of}
use Rattle.ext_units.specs.declared.body.Body.{Body}
use Rattle.ext_units.specs.declared.errors.BodyErr.TheVariants as body_errors
use Rattle.ext_units.specs.declared.errors.InspectErr.{InspectErr}
use Rattle.ext_units.specs.declared.errors.InspectErr.TheVariants as errors
use Rattle.ext_units.specs.declared.errors.UnitsErr.TheVariants as units_errors
use Rattle.ext_units.specs.declared.image.Image.{Image}
use Rattle.ext_units.specs.declared.inspected.Inspect.{Inspect}
use Rattle.ext_units.specs.declared.unit_file.UnitFile.{UnitFile}

-- what is told of an image with these units
pub record IsInspect (body : Body) (units : List UnitFile) (told : Inspect) : Type 0 where
  pub place : told.place ≡ body.place
  pub id : told.id ≡ get body.release (codes "ID")
  pub version : told.version ≡ get body.release (codes "VERSION_ID")
  pub units_are : told.units ≡ names_of units

-- what is told of the image with the units that it has by its prefixes, or why it has none
abbrev pub InspectsBody : Body → List (List ℕ) → Result Inspect InspectErr → Type 0
InspectsBody body given (Ok inspect) =
    (units : List UnitFile) × ChoosesUnits body body.tree given (Ok units) × IsInspect body units inspect
InspectsBody body given (Err errors.OutOfMemory) = Unit {0}
InspectsBody body given (Err errors.NoSuchImage) = ⊥
InspectsBody body given (Err errors.NotPortable) = ⊥
InspectsBody body given (Err (errors.BadRelease line)) = ⊥
InspectsBody body given (Err (errors.PrefixForbidden prefix)) = ChoosesUnits body body.tree given (Err (units_errors.PrefixForbidden prefix))
InspectsBody body given (Err errors.NoUnits) = ChoosesUnits body body.tree given (Err units_errors.NoUnits)
InspectsBody body given (Err (errors.Shelf e)) = ⊥

module _ (told : HeldFile → Told) (old new : ℕ) (base : Entries HeldFile) (arch : Arch) (image : Image) (given : List (List ℕ)) where
  -- what is told of the image; or the first of these: there is none, it has no release file, that is faulty, it does not allow a
  -- prefix, there is no unit; or that the shelf did not give the release file
  abbrev pub Inspects : Result Inspect InspectErr → Type 0
  Inspects (Ok inspect) = (body : Body) × ReadsImage told old new base arch image (Ok body) × InspectsBody body given (Ok inspect)
  Inspects (Err errors.OutOfMemory) = Unit {0}
  Inspects (Err errors.NoSuchImage) = ReadsImage told old new base arch image (Err body_errors.NoSuchImage)
  Inspects (Err errors.NotPortable) = ReadsImage told old new base arch image (Err body_errors.NotPortable)
  Inspects (Err (errors.BadRelease line)) = ReadsImage told old new base arch image (Err (body_errors.BadRelease line))
  Inspects (Err (errors.PrefixForbidden prefix)) =
      (body : Body) × ReadsImage told old new base arch image (Ok body) × InspectsBody body given (Err (errors.PrefixForbidden prefix))
  Inspects (Err errors.NoUnits) =
      (body : Body) × ReadsImage told old new base arch image (Ok body) × InspectsBody body given (Err errors.NoUnits)
  Inspects (Err (errors.Shelf e)) = ReadsImage told old new base arch image (Err (body_errors.Shelf e))
