-- A sink in memory, and one call of it, exactly: what it gives, and the whole sink after it.
use Rattle.std.specs.Prelude.{◌≡◌, ℕ, min, List, ◌++◌, length, take, Contains, ◌⊎◌, Result, Ok, Err}
use Rattle.ext_io.specs.Device.{next_count}

-- what contracts see of a sink in memory
pub record SinkView : Type 0 where
  -- the bytes written so far
  pub written : List ℕ
  -- the most bytes that a call takes
  pub piece : ℕ
  -- the numbers of the calls that fail
  pub fails : List ℕ
  -- how often it was called
  pub calls : ℕ
  -- how often a call failed
  pub faults : ℕ
  -- how many of these calls failed because an allocation failed
  pub starved : ℕ

-- the sink after a call that took these bytes
abbrev pub sink_after : SinkView → List ℕ → SinkView
sink_after old bytes = record old { written = old.written ++ bytes; calls = next_count old.calls }

-- the sink after a call that failed by the list
abbrev pub sink_failed : SinkView → SinkView
sink_failed old = record old { calls = next_count old.calls; faults = next_count old.faults }

-- the sink after a call that failed because an allocation failed
abbrev pub sink_starved : SinkView → SinkView
sink_starved old =
    record old { calls = next_count old.calls; faults = next_count old.faults; starved = next_count old.starved }

-- the number of this call is in the list of those that fail
abbrev pub SinkFails : SinkView → Type 0
SinkFails old = Contains old.fails (next_count old.calls)

-- a call that is handed these bytes: it fails where it is listed, and else only where it is out of memory, which it
-- counts; and it takes as many bytes as there are, at most a piece
abbrev pub SinkWrites : {E : Type 0} → SinkView → SinkView → List ℕ → Result ℕ E → Type 0
SinkWrites old new bytes (Ok n) =
    (¬ SinkFails old) × (n ≡ min old.piece (length bytes)) × (new ≡ sink_after old (take n bytes))
SinkWrites old new bytes (Err _) =
    (SinkFails old × (new ≡ sink_failed old)) ⊎ ((¬ SinkFails old) × (new ≡ sink_starved old))
