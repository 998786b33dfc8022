-- What a release file assigns: the map from each key to its value. That the last assignment counts is os-release(5)'s, that
-- an empty value counts as none is this project's own.
use Rattle.std.specs.Prelude.{◌≡◌, ℕ, ◌-◌, ◌<◌, ◌≤◌, true, false, if◌then◌else◌, ◌==◌, String, List, [], ◌∷◌, length, slice_index_or, Option, Some, None, Result, Ok, Err}
use Rattle.std.specs.FinMap.{FinMap, from_entries, get}
use Rattle.std.specs.List.{AllByRecursion}
use Rattle.std.specs.Option.{option_or}
use Rattle.std.specs.Str.{bytes_eq}
use Rattle.std.specs.String.{string_bytes}
use Rattle.ext_lines.specs.Lines.{lines_of}
use Rattle.ext_lines.specs.ByteOrder.{bytes_cmp}
use Rattle.ext_release.specs.declared.reading.ReleaseErr.{ReleaseErr}
use Rattle.ext_release.specs.declared.reading.ReleaseErr.TheVariants.{OutOfMemory, BadRelease}
use Rattle.ext_release.specs.Line.{ReleaseLine, Faulty, Skipped, Sets, is_faulty, line_of}

-- what one line assigns to a key
abbrev pub assigned : ReleaseLine → List ℕ → Option (List ℕ)
assigned Faulty key = None
assigned Skipped key = None
assigned (Sets k value) key = if bytes_eq k key then Some value else None

-- what the last line that assigns to a key assigns to it
abbrev pub last_assigned : List (List ℕ) → List ℕ → Option (List ℕ)
last_assigned [] key = None
last_assigned (l ∷ ls) key = option_or (last_assigned ls key) (assigned (line_of l) key)

-- an empty value counts as none
abbrev pub some_value : Option (List ℕ) → Option (List ℕ)
some_value None = None
some_value (Some value) = if length value == 0 then None else Some value

-- what a key has after an assignment, or still has without one
abbrev pub leaves : Option (List ℕ) → Option (List ℕ) → Option (List ℕ)
leaves None old = old
leaves (Some value) old = some_value (Some value)

-- the value of a key after these lines
abbrev pub value_after : List (List ℕ) → List ℕ → Option (List ℕ)
value_after ls key = some_value (last_assigned ls key)

-- no line is faulty, and each key has the value that its last assignment gives it
pub record IsRelease (bytes : List ℕ) (release : FinMap bytes_cmp (List ℕ)) : Type 0 where
  pub sound : AllByRecursion (λ l. is_faulty (line_of l) ≡ false) (lines_of bytes)
  pub values : (key : List ℕ) → get release key ≡ value_after (lines_of bytes) key

-- the number, counted from 1, of the first line that is faulty
pub record IsFirstFault (bytes : List ℕ) (number : ℕ) : Type 0 where
  pub counted : 1 ≤ number
  pub within : number ≤ length (lines_of bytes)
  pub faulty : is_faulty (line_of (slice_index_or (lines_of bytes) (number - 1) [])) ≡ true
  pub first : (k : ℕ) → k < number - 1 → is_faulty (line_of (slice_index_or (lines_of bytes) k [])) ≡ false

-- what reading a file gives: its release, or its first faulty line; memory may run out for any file
abbrev pub ReadsRelease : List ℕ → Result (FinMap bytes_cmp (List ℕ)) ReleaseErr → Type 0
ReadsRelease bytes (Ok release) = IsRelease bytes release
ReadsRelease bytes (Err OutOfMemory) = Unit {0}
ReadsRelease bytes (Err (BadRelease line)) = IsFirstFault bytes line
