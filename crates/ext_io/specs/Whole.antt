-- Reading a source to its end, and writing all of a text: what was taken or written, also where it stopped before.
use Rattle.std.specs.Prelude.{◌≡◌, ℕ, ◌+◌, ◌≤◌, List, length}
use Rattle.std.specs.Io.KnownBytes.{Appends, Consumes, IsAtEnd, Keeps}
use Rattle.ext_lines.specs.Prefix.{IsProperPrefix}
use Rattle.ext_text.specs.Causes.{Rose}
use Rattle.ext_io.specs.SourceState.{SourceState}
use Rattle.ext_io.specs.SinkState.{SinkState}
use Rattle.ext_io.specs.declared.whole.ReadErr.{ReadErr}
use Rattle.ext_io.specs.declared.whole.ReadErr.TheVariants.{OutOfMemory, Failed, TooLong}

-- the source was read to its end, and these are the bytes that were left, at most so many
pub record ReadsAll (old new : SourceState) (most : ℕ) (bytes : List ℕ) : Type 0 where
  pub taken : Consumes old.left new.left bytes
  pub end : IsAtEnd new.left
  pub within : length bytes ≤ most

-- some bytes were taken, of which so much is known
abbrev pub Took : SourceState → SourceState → (List ℕ → Type 0) → Type 0
Took old new P = (bytes : List ℕ) × Consumes old.left new.left bytes × P bytes

-- out of memory may come after each read; a fault only where the source had one, and before the budget was passed; too
-- long only where one byte more than the budget was taken
abbrev pub Stopped : SourceState → SourceState → ℕ → ReadErr → Type 0
Stopped old new most OutOfMemory = Took old new (λ bytes. length bytes ≤ most + 1)
Stopped old new most Failed = Took old new (λ bytes. length bytes ≤ most) × Rose old.faults new.faults
Stopped old new most TooLong = Took old new (λ bytes. length bytes ≡ most + 1)

-- how one read with room for so many bytes stops
abbrev pub PieceStopped : SourceState → SourceState → ℕ → ReadErr → Type 0
PieceStopped old new room OutOfMemory = Took old new (λ bytes. length bytes ≤ room)
PieceStopped old new room Failed = Keeps old.left new.left × Rose old.faults new.faults
PieceStopped old new room TooLong = ⊥

-- a proper prefix of the text was written
abbrev pub AppendsProperPrefix : SinkState → SinkState → List ℕ → Type 0
AppendsProperPrefix old new text = (prefix : List ℕ) × IsProperPrefix prefix text × Appends old.written new.written prefix
