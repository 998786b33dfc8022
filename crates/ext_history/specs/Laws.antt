-- What marks promise: that a rollback gives back what was marked, and that there is one of each.
use Rattle.std.specs.Prelude.{◌≡◌, ◌≢◌, ℕ, ◌+◌, ◌<◌, ◌≤◌, nat_lt, List, [], ◌∷◌, length, map, Contains}
use Rattle.std.specs.List.{AllByRecursion, count_by, filter}
use Rattle.std.specs.Ordering.{nat_cmp}
use Rattle.ext_host.specs.Host.{present}
use Rattle.ext_host.specs.Valid.{AreAscending, IsValidHost, most_past}
use Rattle.ext_host.specs.declared.past.Past.{Past}
use Rattle.ext_host.specs.declared.host.Host.{Host}
use Rattle.ext_history.specs.Answers.{Forgets, RollsBack}
use Rattle.ext_history.specs.History.{history_of}
use Rattle.ext_history.specs.Marks.{AreBefore, HasMark, HasNoMark, IsMark, back_to, marked, with_mark, youngest}
use Rattle.ext_history.specs.Next.{ComesOf}
use Rattle.ext_history.specs.declared.marks.Mark.{Mark}

-- a host that was just marked has the mark, so that a rollback to it is not refused
abbrev pub MarkIsThere : Type 0
MarkIsThere = (host : Host) (generation keep : ℕ) → 0 < keep → IsMark (with_mark generation keep host).past generation (marked generation host)

-- a rollback to it changes nothing: the host has its own trees
abbrev pub BackAtOnce : Type 0
BackAtOnce = (host next : Host) (generation keep : ℕ) → AreBefore generation host.past → RollsBack (with_mark generation keep host) generation next
    → (next ≡ with_mark generation keep host) × (present next ≡ present host)

-- each of these hosts is valid and has the mark
abbrev pub AllHave : Past → List Host → Type 0
AllHave mark hosts = AllByRecursion (λ host. IsValidHost host × Contains host.past mark) hosts

-- over any valid hosts that have the mark of a host, a rollback of any of them gives what was marked
abbrev pub BackFromAny : Type 0
BackFromAny = (host : Host) (generation : ℕ) (hosts : List Host) (last next : Host) → AllHave (marked generation host) hosts → Contains hosts last
    → RollsBack last generation next → (next ≡ back_to (marked generation host) last) × (present next ≡ present host)

-- a change of a host keeps the marks of this generation, and leaves a valid host valid
pub record KeepsMark (generation : ℕ) (before after : Host) : Type 0 where
  pub valid : IsValidHost before → IsValidHost after
  pub kept : (mark : Past) → IsMark before.past generation mark → IsMark after.past generation mark

-- hosts that come one after the other, each by such a change, lead from one to another
abbrev pub LeadTo : ℕ → Host → List Host → Host → Type 0
LeadTo generation host [] last = last ≡ host
LeadTo generation host (next ∷ hosts) last = KeepsMark generation host next × LeadTo generation next hosts last

-- after a mark and any changes that keep it, the host has it
abbrev pub MarkStays : Type 0
MarkStays = (host last : Host) (generation keep : ℕ) (hosts : List Host) → 0 < keep → LeadTo generation (with_mark generation keep host) hosts last
    → IsMark last.past generation (marked generation host)

-- and a rollback to it gives what was marked
abbrev pub BackAfterAll : Type 0
BackAfterAll = (host last next : Host) (generation keep : ℕ) (hosts : List Host) → IsValidHost host → AreBefore generation host.past → 0 < keep → keep ≤ most_past
    → LeadTo generation (with_mark generation keep host) hosts last → RollsBack last generation next
    → (next ≡ back_to (marked generation host) last) × (present next ≡ present host)

-- a rollback keeps every mark, to whichever it goes
abbrev pub RollbackKeeps : Type 0
RollbackKeeps = (host next : Host) (to generation : ℕ) → RollsBack host to next → KeepsMark generation host next

-- to forget a mark keeps those of other generations
abbrev pub ForgetKeeps : Type 0
ForgetKeeps = (host next : Host) (which generation : ℕ) → generation ≢ which → Forgets host which next → KeepsMark generation host next

-- a mark more keeps all others where there were fewer than may stay
abbrev pub MarkKeeps : Type 0
MarkKeeps = (host : Host) (added keep generation : ℕ) → AreBefore added host.past → length host.past < keep → keep ≤ most_past
    → KeepsMark generation host (with_mark added keep host)

-- a mark that a change does not drop stays what it was, where none of those that are new is of its generation
abbrev pub NotDroppedStays : Type 0
NotDroppedStays = (host next : Host) (added : List Past) (generation : ℕ) → IsValidHost host → ComesOf host added next → HasNoMark added generation
    → HasMark next.past generation → KeepsMark generation host next

-- a valid host that forgets a mark has one mark less, and none of this generation
abbrev pub ForgetTakesOne : Type 0
ForgetTakesOne = (host next : Host) (which : ℕ) → IsValidHost host → Forgets host which next → HasNoMark next.past which × (length host.past ≡ length next.past + 1)

-- to forget a mark that was just made gives the host of before, where it had fewer marks than may stay
abbrev pub ForgetUndoesMark : Type 0
ForgetUndoesMark = (host next : Host) (generation keep : ℕ) → AreBefore generation host.past → length host.past < keep
    → Forgets (with_mark generation keep host) generation next → next ≡ host

-- of marks in the order of their generations those stay of which fewer are younger than may stay
abbrev pub YoungestStay : Type 0
YoungestStay = (keep : ℕ) (marks : List Past) → AreAscending nat_cmp (map (λ mark. mark.generation) marks)
    → youngest keep marks ≡ filter (λ mark. nat_lt (count_by (λ other. nat_lt mark.generation other.generation) marks) keep) marks

-- no more marks stay than may
abbrev pub NoMoreStay : Type 0
NoMoreStay = (keep : ℕ) (marks : List Past) → length (youngest keep marks) ≤ keep

-- the list of a valid host's marks descends
abbrev pub HistoryDescends : Type 0
HistoryDescends = (host : Host) → IsValidHost host → AreAscending (λ a b. nat_cmp b a) (map (λ (mark : Mark). mark.generation) (history_of host))

-- a valid host has one mark of a generation
abbrev pub OneMark : Type 0
OneMark = (host : Host) (generation : ℕ) (a b : Past) → IsValidHost host → IsMark host.past generation a → IsMark host.past generation b → a ≡ b

-- so there is one rollback
abbrev pub OneRollback : Type 0
OneRollback = (host a b : Host) (to : ℕ) → IsValidHost host → RollsBack host to a → RollsBack host to b → a ≡ b

-- and there is one host without a mark
abbrev pub OneForget : Type 0
OneForget = (host a b : Host) (which : ℕ) → Forgets host which a → Forgets host which b → a ≡ b

-- what is done is not refused
abbrev pub DoneOrRefused : Type 0
DoneOrRefused = (host next : Host) (generation : ℕ) → HasNoMark host.past generation → (¬ RollsBack host generation next) × (¬ Forgets host generation next)
