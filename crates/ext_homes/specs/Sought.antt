-- Which stamps are looked for: a table has a mark for each two bytes with which the digest of such a stamp begins. So each of
-- them is marked, and few others are.
use Rattle.std.specs.Prelude.{◌≡◌, ℕ, ◌+◌, ◌*◌, Bool, true, List, get_or}
use Rattle.std.specs.List.{AllByRecursion}
use Rattle.ext_tree.specs.Tree.{Entries}
use Rattle.ext_tree.specs.declared.entry.Entry.{Entry}
use Rattle.ext_tree.specs.declared.entry.Entry.TheVariants.{Dir, Opaque, File, Link, Hide}
use Rattle.ext_tree.specs.declared.stamp.Stamp.{Stamp}
use Rattle.ext_host.specs.Held.{HeldFile}
use Rattle.ext_host.specs.declared.body.Body.{Body}
use Rattle.ext_homes.specs.Brought.{is_brought}

-- the number of the first two bytes of its digest
abbrev pub mark_of : Stamp → ℕ
mark_of stamp = get_or stamp.digest.0 0 0 * 256 + get_or stamp.digest.0 1 0

-- the mark of the stamp is set
abbrev pub is_sought : List Bool → Stamp → Bool
is_sought marks stamp = get_or marks (mark_of stamp) true

-- the mark of the stamp is set, as a fact
abbrev pub IsSought : List Bool → Stamp → Type 0
IsSought marks stamp = is_sought marks stamp ≡ true

-- what was marked still is
abbrev pub Grows : List Bool → List Bool → Type 0
Grows old new = (stamp : Stamp) → IsSought old stamp → IsSought new stamp

-- the file's stamp is one of these, where the file is brought
abbrev pub BringsAmong : (Stamp → Type 0) → HeldFile → Body → Type 0
BringsAmong Among held body = is_brought body ≡ true → Among held.stamp

-- the same of an entry's file
abbrev pub EntryAmong : (Stamp → Type 0) → Entry HeldFile → Type 0
EntryAmong Among (Dir attributes) = Unit {0}
EntryAmong Among (Opaque attributes) = Unit {0}
EntryAmong Among (File attributes held) = BringsAmong Among held held.body
EntryAmong Among (Link owner target) = Unit {0}
EntryAmong Among Hide = Unit {0}

-- so is the stamp of each file among the entries
abbrev pub AreAmong : (Stamp → Type 0) → Entries HeldFile → Type 0
AreAmong Among es = AllByRecursion (λ e. EntryAmong Among e.1) es

-- the stamps of all brought files of the entries are marked
abbrev pub AreSought : List Bool → Entries HeldFile → Type 0
AreSought marks es = AreAmong (IsSought marks) es
