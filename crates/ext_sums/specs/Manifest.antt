-- What a manifest is, and which line of another text is the first faulty one. That a name may be listed twice with one
-- digest is this project's own.
use Rattle.std.specs.Prelude.{◌≡◌, ◌≢◌, ℕ, ◌+◌, IsTrue, List, ◌∷◌, ◌++◌, length, map, Option, Some, None, Result, Ok, Err}
use Rattle.std.specs.FinMap.{is_sorted}
use Rattle.std.specs.List.{AllByRecursion}
use Rattle.ext_lines.specs.ByteOrder.{bytes_cmp}
use Rattle.ext_lines.specs.Lines.{text_lines}
use Rattle.ext_sums.specs.declared.reading.SumsErr.{SumsErr}
use Rattle.ext_sums.specs.declared.reading.SumsErr.TheVariants.{OutOfMemory, BadManifest}
use Rattle.ext_sums.specs.Entry.{Entry, entry_of}
use Rattle.ext_sums.specs.Sums.{Entries, said}

-- each line is an entry, and these are they
abbrev pub AreEntries : List (List ℕ) → Entries → Type 0
AreEntries lines entries = map entry_of lines ≡ map Some entries

-- no name has two digests: each entry has the digest of the first entry of its name
abbrev pub OneDigest : Entries → Type 0
OneDigest entries = AllByRecursion (λ e. said entries e.0 ≡ Some e.1) entries

-- each line is an entry, no name has two digests, and these are the names in byte order, each once and with its digest
pub record IsManifest (text : List ℕ) (sums : Entries) : Type 0 where
  pub entries : Entries
  pub lines : AreEntries (text_lines text) entries
  pub one_digest : OneDigest entries
  pub sorted : IsTrue (is_sorted bytes_cmp sums)
  pub names : (name : List ℕ) → said sums name ≡ said entries name

-- a line after these entries is faulty: it is no entry, or its name has another digest among them
abbrev pub IsFaulty : Entries → Option Entry → Type 0
IsFaulty before None = Unit {0}
IsFaulty before (Some e) = (digest : List ℕ) × (said before e.0 ≡ Some digest) × (digest ≢ e.1)

-- the number, counted from 1, of the first faulty line: the lines before it are entries, and no name of theirs has two
-- digests
pub record IsFirstFault (text : List ℕ) (number : ℕ) : Type 0 where
  pub before : List (List ℕ)
  pub line : List ℕ
  pub after : List (List ℕ)
  pub entries : Entries
  pub parted : text_lines text ≡ before ++ line ∷ after
  pub sound : AreEntries before entries
  pub one_digest : OneDigest entries
  pub faulty : IsFaulty entries (entry_of line)
  pub count : number ≡ length before + 1

-- what reading a text gives: what its manifest lists, or its first faulty line; memory may run out for any text
abbrev pub ReadsSums : List ℕ → Result Entries SumsErr → Type 0
ReadsSums text (Ok sums) = IsManifest text sums
ReadsSums text (Err OutOfMemory) = Unit {0}
ReadsSums text (Err (BadManifest line)) = IsFirstFault text line
