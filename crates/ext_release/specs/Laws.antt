-- What a file has exactly one of: a release, or a first faulty line.
use Rattle.std.specs.Prelude.{◌≡◌, ◌⊎◌, ℕ, List}
use Rattle.std.specs.FinMap.{FinMap}
use Rattle.ext_lines.specs.ByteOrder.{bytes_cmp}
use Rattle.ext_release.specs.Release.{IsFirstFault, IsRelease}

-- two maps that both are the file's release are equal
abbrev pub OneRelease : Type 0
OneRelease = (bytes : List ℕ) (a b : FinMap bytes_cmp (List ℕ)) → IsRelease bytes a → IsRelease bytes b → a ≡ b

-- a file has a release or a first faulty line
abbrev pub ReleaseOrFault : Type 0
ReleaseOrFault = (bytes : List ℕ) → ((release : FinMap bytes_cmp (List ℕ)) × IsRelease bytes release) ⊎ ((line : ℕ) × IsFirstFault bytes line)

-- a file that has a release has no first faulty line
abbrev pub NoFaultInRelease : Type 0
NoFaultInRelease = (bytes : List ℕ) (release : FinMap bytes_cmp (List ℕ)) (line : ℕ) → IsRelease bytes release → ¬ IsFirstFault bytes line

-- two lines that both are the first faulty one are the same
abbrev pub OneFault : Type 0
OneFault = (bytes : List ℕ) (a b : ℕ) → IsFirstFault bytes a → IsFirstFault bytes b → a ≡ b
