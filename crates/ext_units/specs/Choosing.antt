-- Which units of a tree an image has by its prefixes, or why it has none.
use Rattle.std.specs.Prelude.{◌≡◌, ℕ, ◌<◌, List, [], length, Some, None, Result, Ok, Err}
use Rattle.ext_tree.specs.Tree.{Entries}
use Rattle.ext_units.specs.Prefixes.{first_forbidden, prefixes_of}
use Rattle.ext_units.specs.Units.{AreUnits}
use Rattle.ext_units.specs.declared.body.Body.{Body}
use Rattle.ext_units.specs.declared.errors.UnitsErr.{UnitsErr}
use Rattle.ext_units.specs.declared.errors.UnitsErr.TheVariants as errors
use Rattle.ext_units.specs.declared.unit_file.UnitFile.{UnitFile}

module _ {C : Type 0} (body : Body) (es : Entries C) (given : List (List ℕ)) where
  -- the image allows all prefixes that count
  abbrev pub AllowsAll : Type 0
  AllowsAll = first_forbidden body.release (prefixes_of given body.place) ≡ None

  -- its units, one at least; or the first of these: a prefix that it does not allow, the first of them, or that there is no unit
  abbrev pub ChoosesUnits : Result (List UnitFile) UnitsErr → Type 0
  ChoosesUnits (Ok units) = AllowsAll × AreUnits es (prefixes_of given body.place) units × (0 < length units)
  ChoosesUnits (Err errors.OutOfMemory) = Unit {0}
  ChoosesUnits (Err (errors.PrefixForbidden prefix)) = first_forbidden body.release (prefixes_of given body.place) ≡ Some prefix
  ChoosesUnits (Err errors.NoUnits) = AllowsAll × AreUnits es (prefixes_of given body.place) []
