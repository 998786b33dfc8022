-- What a valid index is: in a generation, the text of a valid host whose files are kept in that generation or in ones before it.
-- This project's own format. A reader of indexes accepts these texts and no others.
use Rattle.std.specs.Prelude.{◌≡◌, ℕ, ◌<◌, ◌≤◌, Bool, ◌||◌, not, if◌then◌else◌, List, length}
use Rattle.std.specs.List.{AllByRecursion, list_any}
use Rattle.ext_tree.specs.Tree.{Entries, is_plain_entry}
use Rattle.ext_host.specs.Drawn.{IsFileOf, trees_of}
use Rattle.ext_host.specs.Held.{HeldFile}
use Rattle.ext_host.specs.Host.{HostTree, past_tree, present}
use Rattle.ext_host.specs.Valid.{IsValidHost}
use Rattle.ext_host.specs.declared.body.Body.TheVariants.{Kept}
use Rattle.ext_host.specs.declared.home.Home.{Home}
use Rattle.ext_host.specs.declared.host.Host.{Host}
use Rattle.ext_index_lines.specs.declared.text_number.TextNumber.{TextNumber}
use Rattle.ext_index_lines.specs.declared.text_number.TextNumber.TheVariants.{One, Later}
use Rattle.ext_index.specs.Index.{index_text}
pub use Rattle.ext_index_reader.specs.Listed.{IsHomeUpTo, IsKeptUpTo, IsOfText1, IsToldHost, IsToldTree, IsWellFormed, IsWellFormedAttachment, IsWellFormedManifest, IsWellFormedTree}

-- The host is valid in generation g, apart from the length of its index. Its files are those of what is seen, of what lies under
-- the view and of every past tree.
pub record IsValidFor (g : ℕ) (host : Host) : Type 0 where
  pub valid : IsValidHost host
  -- each file is kept in that generation or in one before it
  pub kept : (held : HeldFile) → IsFileOf (trees_of host) held → IsKeptUpTo g held.body
  -- two files of one home have one stamp
  pub agree : (a b : HeldFile) (home : Home) → IsFileOf (trees_of host) a → IsFileOf (trees_of host) b → a.body ≡ Kept home → b.body ≡ Kept home → a.stamp ≡ b.stamp
  -- each past tree is of a generation before it
  pub past : AllByRecursion (λ past. (0 < past.generation) × (past.generation < g)) host.past

-- the most bytes of an index
abbrev pub most_index_bytes : ℕ
most_index_bytes = 134217728

-- the bytes are the index of the host in generation g, as this text
pub record IsIndexOf (number : TextNumber) (g : ℕ) (host : Host) (bytes : List ℕ) : Type 0 where
  pub formed : IsWellFormed host
  pub valid : IsValidFor g host
  pub text : bytes ≡ index_text number g host
  pub told : IsToldHost number host
  pub text_1 : number ≡ One → IsOfText1 host
  pub fits : length bytes ≤ most_index_bytes

-- the number of a text
abbrev pub text_number : TextNumber → ℕ
text_number One = 1
text_number (Later owners) = if owners then 3 else 2

-- the host and the number of a text: the bytes are its index in generation g, as the text of this number
abbrev pub GivesIndex : ℕ → List ℕ → Host × ℕ → Type 0
GivesIndex g bytes given = (number : TextNumber) × (given.1 ≡ text_number number) × IsIndexOf number g given.0 bytes

-- some entry is not root's, or has a capability
abbrev pub has_owners : Entries HeldFile → Bool
has_owners es = list_any (λ x. not (is_plain_entry x.1)) es

-- some entry of either tree
abbrev pub tree_has_owners : HostTree → Bool
tree_has_owners tree = has_owners tree.root || has_owners tree.lower

-- some entry of the host, or of a past tree
abbrev pub host_has_owners : Host → Bool
host_has_owners host = tree_has_owners (present host) || list_any (λ past. tree_has_owners (past_tree past)) host.past

-- the text that is written: text 3 where a line tells an owner or a capability, and else text 2
abbrev pub written_number : Host → TextNumber
written_number host = Later (host_has_owners host)

-- the index that is written
abbrev pub written_index : ℕ → Host → List ℕ
written_index g host = index_text (written_number host) g host

-- and the number of its text
abbrev pub written_text : Host → ℕ
written_text host = text_number (written_number host)
