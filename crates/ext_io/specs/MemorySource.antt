-- A source in memory, and one call of it, exactly: what it gives, and the whole source after it.
use Rattle.std.specs.Prelude.{◌≡◌, ℕ, List, min, length, drop, Contains, Result, Ok, Err}
use Rattle.ext_io.specs.Device.{next_count}

-- what contracts see of a source in memory
pub record SourceView : Type 0 where
  -- the bytes that are left to read
  pub left : List ℕ
  -- the most bytes that a call gives
  pub piece : ℕ
  -- the numbers of the calls that fail
  pub fails : List ℕ
  -- how often it was called
  pub calls : ℕ
  -- how often a call failed
  pub faults : ℕ

-- the source after a call that gave n bytes
abbrev pub source_after : SourceView → ℕ → SourceView
source_after old n = record old { left = drop n old.left; calls = next_count old.calls }

-- the source after a call that failed
abbrev pub source_failed : SourceView → SourceView
source_failed old = record old { calls = next_count old.calls; faults = next_count old.faults }

-- the number of this call is in the list of those that fail
abbrev pub SourceFails : SourceView → Type 0
SourceFails old = Contains old.fails (next_count old.calls)

-- a call with room for so many bytes: it fails exactly where it is listed, and gives as many bytes as there are, at most
-- a piece and at most the room
abbrev pub Reads : {E : Type 0} → SourceView → SourceView → ℕ → Result ℕ E → Type 0
Reads old new room (Ok n) =
    (¬ SourceFails old) × (n ≡ min (min old.piece room) (length old.left)) × (new ≡ source_after old n)
Reads old new room (Err _) = SourceFails old × (new ≡ source_failed old)
