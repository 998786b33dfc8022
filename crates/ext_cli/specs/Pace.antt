-- When a line of progress is due. This project's own.
use Rattle.std.specs.Prelude.{ℕ, ◌-◌, ◌<◌, ◌≤◌, Option, Some, None}
use Rattle.std.specs.Time.{instant_nanos}
use Rattle.std.specs.declared.time.Instant.{Instant}
use Rattle.ext_cli.specs.declared.pace.Pace.{Pace}

-- from one moment to a later one, in nanoseconds; none to an earlier one
abbrev pub span : Instant → Instant → ℕ
span earlier later = instant_nanos later - instant_nanos earlier

-- the last line, if there was one, is a fifth of a second old
abbrev pub IsApart : Option Instant → Instant → Type 0
IsApart None moment = Unit {0}
IsApart (Some shown) moment = 200_000_000 ≤ span shown moment

-- the command works for more than half a second, and lines are apart
pub record IsDue (pace : Pace) (moment : Instant) : Type 0 where
  pub late : 500_000_000 < span pace.begun moment
  pub apart : IsApart pace.shown moment
