-- The text of a tree, this project's own format: a header, a line for each entry in path order, and `end`.
--
--     hostext-tree VERSION
--     d MODE[:USER:GROUP] PATH
--     o MODE[:USER:GROUP] PATH
--     f ATTRIBUTES SIZE HEX PATH
--     l LENGTH[:USER:GROUP] TARGET PATH
--     w PATH
--     end
--
-- A file's line holds its stamp. The version is 3 where an entry is not root's or has a capability, else 2 where the tree has
-- an opaque directory or a whiteout, lines `o` and `w`, and else 1. The grammar is by printing: a text is what some tree is
-- printed as.
use Rattle.std.specs.Prelude.{◌≡◌, ℕ, ◌+◌, ◌<◌, ◌≤◌, max, if◌then◌else◌, List, [], ◌∷◌, ◌++◌, length, map, codes}
use Rattle.std.specs.List.{AllByRecursion, flat_map}
use Rattle.ext_lines.specs.Lines.{lines_text}
use Rattle.ext_tree.specs.Fields.{IsStamp, stamp_fields}
use Rattle.ext_attributes.specs.Attributes.{is_plain, is_plain_file, is_root_owner}
use Rattle.ext_tree.specs.Tree.{Entries, IsTreeWithin}
use Rattle.ext_tree.specs.EntryLine.{HasLine, IsWritable, LineForm, entry_line}
use Rattle.ext_tree.specs.declared.entry.Entry.{Entry}
use Rattle.ext_tree.specs.declared.entry.Entry.TheVariants.{Dir, Opaque, File, Link, Hide}
use Rattle.ext_tree.specs.declared.stamp.Stamp.{Stamp}

-- files are known by their stamps
abbrev pub stamp_form : LineForm Stamp
stamp_form = record { fields = stamp_fields; writable = IsStamp }

-- the line of an entry in a tree's text, without its newline
abbrev pub tree_line : List (List ℕ) × Entry Stamp → List ℕ
tree_line x = entry_line stamp_form x

-- the entry has a line there
abbrev pub HasTreeLine : List (List ℕ) × Entry Stamp → Type 0
HasTreeLine x = HasLine stamp_form x

-- the first version that has a line for the entry
abbrev pub needed_version : {C : Type 0} → Entry C → ℕ
needed_version (Dir attributes) = if is_plain attributes then 1 else 3
needed_version (Opaque attributes) = if is_plain attributes then 2 else 3
needed_version (File attributes content) = if is_plain_file attributes then 1 else 3
needed_version (Link owner target) = if is_root_owner owner then 1 else 3
needed_version Hide = 2

-- the first version that has a line for each entry
abbrev pub version_of : {C : Type 0} → Entries C → ℕ
version_of [] = 1
version_of (x ∷ es) = max (needed_version x.1) (version_of es)

-- the versions of the format
pub record IsVersion (version : ℕ) : Type 0 where
  pub low : 1 ≤ version
  pub high : version ≤ 3

-- the first line of a text
abbrev pub header : ℕ → List ℕ
header version = codes "hostext-tree " ++ (48 + version) ∷ []

-- the lines of a text with this header
abbrev pub printed_lines : ℕ → Entries Stamp → List (List ℕ)
printed_lines version es = header version ∷ map tree_line es ++ codes "end" ∷ []

-- the lines of a tree's text
abbrev pub tree_lines : Entries Stamp → List (List ℕ)
tree_lines es = printed_lines (version_of es) es

-- the text of a tree
abbrev pub tree_text : Entries Stamp → List ℕ
tree_text es = lines_text (tree_lines es)

-- each entry is in the ranges of the format
abbrev pub AreWritable : Entries Stamp → Type 0
AreWritable es = AllByRecursion (λ x. IsWritable stamp_form x.1) es

-- a tree that has a text
pub record HasText (es : Entries Stamp) : Type 0 where
  pub within : IsTreeWithin es
  pub each : AreWritable es

-- the bytes are the tree's text
pub record IsTreeText (bytes : List ℕ) (es : Entries Stamp) : Type 0 where
  pub tree : HasText es
  pub text : bytes ≡ tree_text es

-- the bytes are the texts of the trees one after another, of one tree at least
pub record IsSequence (bytes : List ℕ) (trees : List (Entries Stamp)) : Type 0 where
  pub non_empty : 0 < length trees
  pub each : AllByRecursion HasText trees
  pub text : bytes ≡ flat_map tree_text trees

-- a version and a tree with a text that the format allows, apart from the rule that some line needs the version
pub record IsLoose (t : ℕ × Entries Stamp) : Type 0 where
  pub tree : HasText t.1
  pub version : version_of t.1 ≤ t.0
  pub known : t.0 ≤ 3

-- its lines
abbrev pub loose_lines : ℕ × Entries Stamp → List (List ℕ)
loose_lines t = printed_lines t.0 t.1
