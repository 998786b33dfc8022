-- Wildcards. Of those of sysupdate.d(5), section MATCH PATTERNS, this project has `@v` and `@h`.
use Rattle.std.specs.Prelude.{ℕ, Bool, true, false, if◌then◌else◌, ◌==◌, Option, Some, None}
use Rattle.ext_pattern.specs.declared.wildcard.Wildcard.{Wildcard}
use Rattle.ext_pattern.specs.declared.wildcard.Wildcard.TheVariants.{Version, Digest}

-- the letter that names it
abbrev pub letter_of : Wildcard → ℕ
letter_of Version = 118
letter_of Digest = 104

-- the wildcard that a byte names
abbrev pub wildcard_of : ℕ → Option Wildcard
wildcard_of b = if b == 118 then Some Version else if b == 104 then Some Digest else None

-- whether both are the same
abbrev pub same_wildcard : Wildcard → Wildcard → Bool
same_wildcard Version Version = true
same_wildcard Version Digest = false
same_wildcard Digest Version = false
same_wildcard Digest Digest = true

-- the most bytes of a version, and the bytes of a digest's digits
abbrev pub most_of : Wildcard → ℕ
most_of Version = 128
most_of Digest = 64
