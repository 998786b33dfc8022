-- Entries that come line by line, put in the order of their names, each name once.
use Rattle.std.specs.Prelude.{◌≡◌, ◌≢◌, ℕ, suc, ◌<◌, nat_lt, IsTrue, if◌then◌else◌, List, [], ◌∷◌, map, Option, Some, None}
use Rattle.std.specs.FinMap.{is_sorted}
use Rattle.std.specs.List.{All, Any}
use Rattle.std.specs.List.Sorted.{IsPermutation, IsSortedByKey}
use Rattle.std.specs.Str.{bytes_eq}
use Rattle.ext_lines.specs.ByteOrder.{bytes_cmp}
use Rattle.ext_lines.specs.Prefix.{IsPrefix}
use Rattle.ext_sums.specs.declared.merging.Numbered.{Numbered}
use Rattle.ext_sums.specs.declared.merging.Standing.{Standing}
use Rattle.ext_sums.specs.declared.merging.Standing.TheVariants.{New, Same, Other}
use Rattle.ext_sums.specs.declared.sums.Listed.{Listed}
use Rattle.ext_sums.specs.Entry.{Entry}
use Rattle.ext_sums.specs.Sums.{Entries, listed_entry, said}

-- what a line is to the last name before it: it has another name, or the same name and the same digest or another one
abbrev pub same_or_other : Listed → Listed → Standing
same_or_other last next = if bytes_eq last.digest.0 next.digest.0 then Same else Other

-- where there is no name before it, it has another one
abbrev pub standing_of : Option Listed → Listed → Standing
standing_of None next = New
standing_of (Some last) next = if bytes_eq last.name next.name then same_or_other last next else New

-- the least of the lines that conflict, with one more
abbrev pub least : Option ℕ → ℕ → ℕ
least None line = line
least (Some first) line = if nat_lt first line then first else line

-- what a line lists
abbrev pub numbered_entry : Numbered → Entry
numbered_entry n = listed_entry n.listed

-- what lines list, in their order
abbrev pub entries_in : List Numbered → Entries
entries_in ns = map numbered_entry ns

-- the lines have ascending numbers without a gap, from this one on
abbrev pub AreNumbered : ℕ → List Numbered → Type 0
AreNumbered number [] = Unit {0}
AreNumbered number (n ∷ ns) = (n.line ≡ number) × AreNumbered (suc number) ns

-- each name begins with the prefix
abbrev pub BeginWith : List ℕ → List Numbered → Type 0
BeginWith prefix ns = All (λ n. IsPrefix prefix n.listed.name) ns

-- in the order of their names
abbrev pub AreByName : List Numbered → Type 0
AreByName ns = IsSortedByKey (λ n. n.listed.name) bytes_cmp ns

-- the same lines by name, where the first line of a name is the first one still
pub record AreSortedFrom (old new : List Numbered) : Type 0 where
  pub same : IsPermutation old new
  pub sorted : AreByName new
  pub first : (name : List ℕ) → said (entries_in new) name ≡ said (entries_in old) name

-- a line has the digest that is said of its name
abbrev pub Agrees : Entries → Numbered → Type 0
Agrees entries n = said entries n.listed.name ≡ Some n.listed.digest.0

-- or another one
abbrev pub Differs : Entries → Numbered → Type 0
Differs entries n = (digest : List ℕ) × (said entries n.listed.name ≡ Some digest) × (digest ≢ n.listed.digest.0)

-- the least number of a line that does not agree with the lines; None where each agrees
abbrev pub IsConflict : List Numbered → Option ℕ → Type 0
IsConflict ns None = All (Agrees (entries_in ns)) ns
IsConflict ns (Some line) = Any (λ n. (n.line ≡ line) × Differs (entries_in ns) n) ns × All (λ n. n.line < line → Agrees (entries_in ns) n) ns

-- each name once, in order, with the digest of its first line, and the least line that conflicts
pub record IsMerge (ns : List Numbered) (entries : Entries) (conflict : Option ℕ) : Type 0 where
  pub sorted : IsTrue (is_sorted bytes_cmp entries)
  pub names : (name : List ℕ) → said entries name ≡ said (entries_in ns) name
  pub least : IsConflict ns conflict
