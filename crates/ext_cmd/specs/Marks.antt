-- How many marks of a host stay.
use Rattle.std.specs.Prelude.{ℕ, Option, Some, None}
use Rattle.ext_host.specs.Valid.{most_past}

-- how many stay at the most where `mark` was given this: so many, or as many as a host has at the most
abbrev pub kept_marks : Option ℕ → ℕ
kept_marks None = most_past
kept_marks (Some keep) = keep
