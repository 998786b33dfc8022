-- Reading the lines of a manifest one after another, up to the first that is no entry.
use Rattle.std.specs.Prelude.{◌≡◌, ℕ, ◌+◌, ◌≤◌, List, [], ◌∷◌, ◌++◌, length, Option, Some, None}
use Rattle.ext_lines.specs.Lines.{text_lines}
use Rattle.ext_sums.specs.declared.merging.Numbered.{Numbered}
use Rattle.ext_sums.specs.Entry.{entry_of}
use Rattle.ext_sums.specs.Manifest.{AreEntries}
use Rattle.ext_sums.specs.Merging.{AreNumbered, entries_in}

-- what stands after the entries: nothing, or the line with this number, which is no entry
abbrev pub StopsAt : Option ℕ → ℕ → List (List ℕ) → Type 0
StopsAt None number rest = rest ≡ []
StopsAt (Some line) number rest = (first : List ℕ) × (after : List (List ℕ)) × (rest ≡ first ∷ after) × (entry_of first ≡ None) × (line ≡ number)

-- the entries of a text up to the first line that is none, with the numbers of their lines
pub record AreRead (text : List ℕ) (ns : List Numbered) (stop : Option ℕ) : Type 0 where
  pub before : List (List ℕ)
  pub rest : List (List ℕ)
  pub parted : text_lines text ≡ before ++ rest
  pub sound : AreEntries before (entries_in ns)
  pub numbers : AreNumbered 1 ns
  pub stops : StopsAt stop (length before + 1) rest

-- so many lines were read, each an entry, and the rest is left
pub record IsSoFar (text rest : List ℕ) (number : ℕ) (ns : List Numbered) : Type 0 where
  pub done : List (List ℕ)
  pub whole : text_lines text ≡ done ++ text_lines rest
  pub sound : AreEntries done (entries_in ns)
  pub numbers : AreNumbered 1 ns
  pub count : length done ≡ number
  pub size : number + length rest ≤ length text
