-- The laws of trees and of their texts.
use Rattle.std.specs.Prelude.{◌≡◌, ◌≢◌, ℕ, ◌↔◌, List, [], ◌++◌, take, IsTrue, is_some}
use Rattle.ext_lines.specs.Lines.{whole_lines}
use Rattle.ext_text.specs.Path.{is_proper_prefix, parent}
use Rattle.ext_tree.specs.Tree.{Entries, IsTree, lookup, is_directory_at, is_directory_or_root}
use Rattle.ext_tree.specs.TreeText.{IsTreeText, IsSequence}
use Rattle.ext_tree.specs.FirstFault.{Begins, EndsIdle, IsFirstFault, IsOne, AtLeastOne}
use Rattle.ext_tree.specs.declared.stamp.Stamp.{Stamp}

-- a directory stands at each non-empty proper prefix of the path
abbrev pub HasPrefixes : {C : Type 0} → Entries C → List (List ℕ) → Type 0
HasPrefixes es path = (prefix : List (List ℕ)) → prefix ≢ [] → IsTrue (is_proper_prefix prefix path) → IsTrue (is_directory_at (lookup es prefix))

-- every non-empty proper prefix of an entry's path is a directory
abbrev pub EntriesHavePrefixes : Type 0 → Type 0
EntriesHavePrefixes C = (es : Entries C) (path : List (List ℕ)) → IsTree es → IsTrue (is_some (lookup es path)) → HasPrefixes es path

-- an entry may stand at a path below the root exactly where every non-empty proper prefix of that path is a directory
abbrev pub DirectoriesHavePrefixes : Type 0 → Type 0
DirectoriesHavePrefixes C = (es : Entries C) (path : List (List ℕ)) → IsTree es → path ≢ [] → IsTrue (is_directory_or_root es (parent path)) ↔ HasPrefixes es path

-- a text belongs to one tree
abbrev pub OneTreeOfText : Type 0
OneTreeOfText = (bytes : List ℕ) (s t : Entries Stamp) → IsTreeText bytes s → IsTreeText bytes t → s ≡ t

-- a tree has one text
abbrev pub OneTextOfTree : Type 0
OneTextOfTree = (t : Entries Stamp) (bytes other : List ℕ) → IsTreeText bytes t → IsTreeText other t → bytes ≡ other

-- no tree text is a proper prefix of another
abbrev pub NoPrefixOfText : Type 0
NoPrefixOfText = (bytes more : List ℕ) (s t : Entries Stamp) → IsTreeText bytes s → IsTreeText (bytes ++ more) t → more ≡ []

-- a sequence of texts is that of one list of trees
abbrev pub OneListOfSequence : Type 0
OneListOfSequence = (bytes : List ℕ) (ss ts : List (Entries Stamp)) → IsSequence bytes ss → IsSequence bytes ts → ss ≡ ts

-- a tree text has no first faulty line
abbrev pub NoFaultInText : Type 0
NoFaultInText = (bytes : List ℕ) (tree : Entries Stamp) (line : ℕ) → IsTreeText bytes tree → ¬ IsFirstFault IsOne bytes line

-- nor has a sequence of texts
abbrev pub NoFaultInSequence : Type 0
NoFaultInSequence = (bytes : List ℕ) (trees : List (Entries Stamp)) (line : ℕ) → IsSequence bytes trees → ¬ IsFirstFault AtLeastOne bytes line

-- with each prefix of the lines of a sequence a sequence begins, and none ends with a text of version 2 without its lines
abbrev pub PrefixesBegin : Type 0
PrefixesBegin = (bytes : List ℕ) (trees : List (Entries Stamp)) (line : ℕ) → IsSequence bytes trees → Begins AtLeastOne (take line (whole_lines bytes)) × ¬ EndsIdle (take line (whole_lines bytes))

-- bytes that are no tree text have a first faulty line
abbrev pub FaultOfNoText : Type 0
FaultOfNoText = (bytes : List ℕ) → ((tree : Entries Stamp) → ¬ IsTreeText bytes tree) → (line : ℕ) × IsFirstFault IsOne bytes line

-- and so have bytes that are no sequence of texts
abbrev pub FaultOfNoSequence : Type 0
FaultOfNoSequence = (bytes : List ℕ) → ((trees : List (Entries Stamp)) → ¬ IsSequence bytes trees) → (line : ℕ) × IsFirstFault AtLeastOne bytes line

-- no bytes have two first faulty lines
abbrev pub OneFirstFault : (List (Entries Stamp) → Type 0) → Type 0
OneFirstFault wanted = (bytes : List ℕ) (k l : ℕ) → IsFirstFault wanted bytes k → IsFirstFault wanted bytes l → k ≡ l
