-- The first faulty line of bytes that are no tree text, or no sequence of tree texts. Lines are counted from 1. A line is
-- faulty where it ends a text of a version that no line of it needs, or where no sequence of texts that the format allows
-- apart from that rule begins with the lines up to it. The first faulty line is the least one; a text that stops
-- early is faulty at the line after its last whole line, also where that line has begun. Bytes that are such a text or
-- sequence have no faulty line.
use Rattle.std.specs.Prelude.{◌≡◌, ℕ, ◌+◌, ◌-◌, ◌<◌, ◌≤◌, ◌⊎◌, List, ◌++◌, length, map, take, Result, Ok, Err}
use Rattle.std.specs.List.{AllByRecursion, flat_map}
use Rattle.ext_lines.specs.Lines.{whole_lines}
use Rattle.ext_tree.specs.Tree.{Entries}
use Rattle.ext_tree.specs.TreeText.{HasText, IsLoose, IsTreeText, IsSequence, loose_lines, printed_lines, version_of}
use Rattle.ext_tree.specs.declared.stamp.Stamp.{Stamp}
use Rattle.ext_tree.specs.declared.reading.TreeTextErr.{TreeTextErr}
use Rattle.ext_tree.specs.declared.reading.TreeTextErr.TheVariants.{OutOfMemory, BadTree}

-- how many trees a reader wants: one, or one and more
abbrev pub IsOne : List (Entries Stamp) → Type 0
IsOne trees = length trees ≡ 1

-- some text is there
abbrev pub AtLeastOne : List (Entries Stamp) → Type 0
AtLeastOne trees = 0 < length trees

-- some sequence of as many texts begins with these lines, apart from the rule on what needs the version
pub record Begins (wanted : List (Entries Stamp) → Type 0) (lines : List (List ℕ)) : Type 0 where
  pub texts : List (ℕ × Entries Stamp)
  pub more : List (List ℕ)
  pub as_many : wanted (map (λ t. t.1) texts)
  pub each : AllByRecursion IsLoose texts
  pub text : lines ++ more ≡ flat_map loose_lines texts

-- these lines end with a text of a version that no line of it needs
pub record EndsIdle (lines : List (List ℕ)) : Type 0 where
  pub before : List (List ℕ)
  pub entries : Entries Stamp
  pub version : ℕ
  pub tree : HasText entries
  pub none : version_of entries < version
  pub text : lines ≡ before ++ printed_lines version entries

-- the least faulty line
pub record IsFaultyLine (wanted : List (Entries Stamp) → Type 0) (lines : List (List ℕ)) (line : ℕ) : Type 0 where
  pub counted : 0 < line
  pub there : line ≤ length lines
  pub before : Begins wanted (take (line - 1) lines)
  pub not_before : (k : ℕ) → k < line → ¬ EndsIdle (take k lines)
  pub faulty : EndsIdle (take line lines) ⊎ (¬ Begins wanted (take line lines))

-- the text stops where it might have gone on
pub record IsEarlyEnd (wanted : List (Entries Stamp) → Type 0) (lines : List (List ℕ)) (line : ℕ) : Type 0 where
  pub after : line ≡ length lines + 1
  pub before : Begins wanted lines
  pub not_before : (k : ℕ) → k < line → ¬ EndsIdle (take k lines)

-- the bytes are no sequence of as many texts
abbrev pub IsNoSequence : (List (Entries Stamp) → Type 0) → List ℕ → Type 0
IsNoSequence wanted bytes = (trees : List (Entries Stamp)) → wanted trees → ¬ IsSequence bytes trees

-- the bytes are no sequence of as many texts, and this is the first line where they are none
pub record IsFirstFault (wanted : List (Entries Stamp) → Type 0) (bytes : List ℕ) (line : ℕ) : Type 0 where
  pub none : IsNoSequence wanted bytes
  pub stop : IsFaultyLine wanted (whole_lines bytes) line ⊎ IsEarlyEnd wanted (whole_lines bytes) line

-- what `read_tree` gives
abbrev pub ReadsTree : List ℕ → Result (Entries Stamp) TreeTextErr → Type 0
ReadsTree bytes (Ok tree) = IsTreeText bytes tree
ReadsTree bytes (Err OutOfMemory) = Unit {0}
ReadsTree bytes (Err (BadTree line)) = IsFirstFault IsOne bytes line

-- what `read_trees` gives
abbrev pub ReadsSequence : List ℕ → Result (List (Entries Stamp)) TreeTextErr → Type 0
ReadsSequence bytes (Ok trees) = IsSequence bytes trees
ReadsSequence bytes (Err OutOfMemory) = Unit {0}
ReadsSequence bytes (Err (BadTree line)) = IsFirstFault AtLeastOne bytes line
