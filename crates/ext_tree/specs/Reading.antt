-- What the reader of tree texts decides from one line to the next, and where it stops.
use Rattle.std.specs.Prelude.{◌≡◌, ℕ, ◌+◌, ◌≤◌, ◌⊎◌, List, [], ◌∷◌, ◌++◌, length, map, codes}
use Rattle.ext_lines.specs.Lines.{lines_text}
use Rattle.ext_lines.specs.Split.{IsSplit}
use Rattle.ext_tree.specs.Tree.{Entries}
use Rattle.ext_tree.specs.TreeText.{HasText, IsVersion, header, needed_version, tree_line, tree_lines, tree_text, version_of}
use Rattle.ext_tree.specs.declared.entry.Entry.{Entry}
use Rattle.ext_tree.specs.declared.stamp.Stamp.{Stamp}
use Rattle.ext_tree.specs.declared.reading.TreeTextErr.{TreeTextErr}
use Rattle.ext_tree.specs.declared.reading.TreeTextErr.TheVariants.{OutOfMemory, BadTree}
use Rattle.ext_tree.specs.declared.reading.Line.{Line}
use Rattle.ext_tree.specs.declared.reading.Line.TheVariants.{End, Item, Fault}

-- the entries with one more, which the version has a line for, have a text
pub record MayAdd (version : ℕ) (es : Entries Stamp) (x : List (List ℕ) × Entry Stamp) : Type 0 where
  pub longer : HasText (es ++ x ∷ [])
  pub needed : needed_version x.1 ≤ version

-- the line may stand after the lines of the entries in a text of this version: the last one of their text, or one of a
-- longer tree
abbrev pub MayStand : ℕ → Entries Stamp → List ℕ → Type 0
MayStand version es line = ((line ≡ codes "end") × (version_of es ≡ version)) ⊎ ((x : List (List ℕ) × Entry Stamp) × MayAdd version es x × (line ≡ tree_line x))

-- what a line is after the lines of entries
abbrev pub Judges : ℕ → Entries Stamp → List ℕ → Line → Type 0
Judges version es line End = (line ≡ codes "end") × (version_of es ≡ version)
Judges version es line (Item path entry) = MayAdd version es (path, entry) × (line ≡ tree_line (path, entry))
Judges version es line Fault = ¬ MayStand version es line

-- no line that may stand at the start of the bytes stands there
abbrev pub NoneNext : (List ℕ → Type 0) → List ℕ → Type 0
NoneNext May bytes = (line more : List ℕ) → IsSplit 10 bytes line more → ¬ May line

-- the bytes begin with the lines of a tree after its header; `next` is the number of the line after them
pub record BeginsBody (version : ℕ) (bytes : List ℕ) (first : ℕ) (es : Entries Stamp) (rest : List ℕ) (next : ℕ) : Type 0 where
  pub tree : HasText es
  pub exact : version_of es ≡ version
  pub text : bytes ≡ lines_text (map tree_line es ++ codes "end" ∷ []) ++ rest
  pub counted : next ≡ first + (length es + 1)

-- the bytes begin with lines of entries, and at this line no such text goes on
pub record StopsBody (version : ℕ) (bytes : List ℕ) (first line : ℕ) : Type 0 where
  pub entries : Entries Stamp
  pub rest : List ℕ
  pub tree : HasText entries
  pub needed : version_of entries ≤ version
  pub text : bytes ≡ lines_text (map tree_line entries) ++ rest
  pub counted : line ≡ first + length entries
  pub stop : NoneNext (MayStand version entries) rest

-- why the lines after a header are read no further
abbrev pub BodyFault : ℕ → List ℕ → ℕ → TreeTextErr → Type 0
BodyFault version bytes first OutOfMemory = Unit {0}
BodyFault version bytes first (BadTree line) = StopsBody version bytes first line

-- the bytes begin with a tree's text
pub record BeginsText (bytes : List ℕ) (first : ℕ) (es : Entries Stamp) (rest : List ℕ) (next : ℕ) : Type 0 where
  pub tree : HasText es
  pub text : bytes ≡ tree_text es ++ rest
  pub counted : next ≡ first + length (tree_lines es)

-- a line is a header
abbrev pub IsHeader : List ℕ → Type 0
IsHeader line = (version : ℕ) × IsVersion version × (line ≡ header version)

-- the header is missing, or no text goes on at this line after it
abbrev pub StopsText : List ℕ → ℕ → ℕ → Type 0
StopsText bytes first line =
    ((line ≡ first) × NoneNext IsHeader bytes)
    ⊎ ((version : ℕ) × (body : List ℕ) × IsVersion version × IsSplit 10 bytes (header version) body × StopsBody version body (first + 1) line)

-- why a text is read no further
abbrev pub TextFault : List ℕ → ℕ → TreeTextErr → Type 0
TextFault bytes first OutOfMemory = Unit {0}
TextFault bytes first (BadTree line) = StopsText bytes first line
