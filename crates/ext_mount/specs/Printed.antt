-- What has been printed to a sink, of which a part may wait to be written.
use Rattle.std.specs.Prelude.{◌≡◌, ℕ, ◌≤◌, Bool, true, false, List, ◌++◌}
use Rattle.std.specs.Borrow.{GName}
use Rattle.std.specs.Io.KnownBytes.{Appends}
use Rattle.ext_lines.specs.Prefix.{IsPrefix}
use Rattle.ext_text.specs.Causes.{Rose}
use Rattle.ext_io.specs.SinkState.{SinkState}
use Rattle.ext_io.specs.Whole.{AppendsProperPrefix}

-- since a sink stood so, these bytes were written, and no fault was forgotten
pub record HasWritten (start now : SinkState) (bytes : List ℕ) : Type 0 where
  pub appended : Appends start.written now.written bytes
  pub count : start.faults ≤ now.faults

-- since a sink stood so, it failed, and a proper prefix of these bytes was written
pub record StopsPrinting (start now : SinkState) (printed : List ℕ) : Type 0 where
  pub prefix : AppendsProperPrefix start now printed
  pub cause : Rose start.faults now.faults

-- since a sink stood so, some prefix of these bytes was written
pub record WritesPrefix (start now : SinkState) (bytes : List ℕ) : Type 0 where
  pub prefix : List ℕ
  pub is : IsPrefix prefix bytes
  pub appended : Appends start.written now.written prefix

-- since a sink stood so, these bytes were printed: they were written, but for those that wait
pub record PrintsOn (start now : SinkState) (waiting printed : List ℕ) : Type 0 where
  pub written : List ℕ
  pub split : printed ≡ written ++ waiting
  pub has : HasWritten start now written

-- the same of a sink of which is known whether it has failed: then nothing waits any more
abbrev pub Printed : SinkState → SinkState → Bool → List ℕ → List ℕ → Type 0
Printed start now false waiting printed = PrintsOn start now waiting printed
Printed start now true waiting printed = StopsPrinting start now printed

-- a sink, and the reference to it
pub record SinkAt : Type 0 where
  -- by which a sink is known
  pub reference : GName
  -- what contracts see of it
  pub state : SinkState

-- since the sink that was lent stood so, these bytes have been printed to it
pub record IsPrinted (start now : SinkAt) (failed : Bool) (waiting printed : List ℕ) : Type 0 where
  pub same_reference : now.reference ≡ start.reference
  pub all : Printed start.state now.state failed waiting printed
