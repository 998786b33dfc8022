-- The homes of the files that an index lists, in the order of their generations and numbers, each with its stamp. Two lines
-- of one home have one stamp.
use Rattle.std.specs.Prelude.{◌≡◌, ℕ, List, ◌++◌, MatchOption, Option}
use Rattle.std.specs.BTreeMap.{insert_entry, is_at}
use Rattle.std.specs.FinMap.{entries, from_entries}
use Rattle.std.specs.Map.{lookup}
use Rattle.std.specs.Ordering.{nat_cmp, ordering_then}
use Rattle.std.specs.declared.cmp.Ordering.{Ordering}
use Rattle.ext_tree.specs.declared.entry.Entry.{Entry}
use Rattle.ext_tree.specs.declared.entry.Entry.TheVariants.{Dir, Opaque, File, Link, Hide}
use Rattle.ext_tree.specs.declared.stamp.Stamp.{Stamp}
use Rattle.ext_host.specs.declared.home.Home.{Home}
use Rattle.ext_index_lines.specs.declared.homed.Homed.{Homed}

-- the stamp at each home that a line so far has
abbrev pub Stamps : Type 0
Stamps = List ((ℕ × ℕ) × Stamp)

-- generations first, then the numbers of files
abbrev pub home_cmp : ℕ × ℕ → ℕ × ℕ → Ordering
home_cmp a b = ordering_then (nat_cmp a.0 b.0) (nat_cmp a.1 b.1)

-- the stamps of two lists in order; where both have a home, that of the first
abbrev pub in_order : Stamps → Stamps → Stamps
in_order first second = entries (from_entries {R = home_cmp} (first ++ second))

-- the key of a home in that map
abbrev pub key_of : Home → ℕ × ℕ
key_of home = (home.generation, home.file)

-- the stamp of a home
abbrev pub stamp_at : Stamps → Home → Option Stamp
stamp_at stamps home = lookup (is_at (home_cmp (key_of home))) stamps

-- this stamp, or none
abbrev pub IsOrNone : Option Stamp → Stamp → Type 0
IsOrNone found stamp = MatchOption found (Unit {0}) (λ other. other ≡ stamp)

-- the file has the stamp of its home, if there is one
abbrev pub FileAgrees : Stamps → Homed → Type 0
FileAgrees stamps file = IsOrNone (stamp_at stamps file.home) file.stamp

-- with the home of the file
abbrev pub noted_file : Stamps → Homed → Stamps
noted_file stamps file = insert_entry home_cmp stamps (key_of file.home) file.stamp

-- an entry's file has the stamp of its home, if there is one
abbrev pub Agrees : Stamps → Entry Homed → Type 0
Agrees stamps (Dir attributes) = Unit {0}
Agrees stamps (Opaque attributes) = Unit {0}
Agrees stamps (File attributes file) = FileAgrees stamps file
Agrees stamps (Link owner target) = Unit {0}
Agrees stamps Hide = Unit {0}

-- with the home of an entry's file
abbrev pub noted : Stamps → Entry Homed → Stamps
noted stamps (Dir attributes) = stamps
noted stamps (Opaque attributes) = stamps
noted stamps (File attributes file) = noted_file stamps file
noted stamps (Link owner target) = stamps
noted stamps Hide = stamps
