-- Marks: what a host was at some generations, which it keeps as past trees to go back to. This project's own.
use Rattle.std.specs.Prelude.{◌≡◌, ℕ, ◌-◌, ◌<◌, Bool, not, nat_eq, List, [], ◌∷◌, ◌++◌, length, drop, Option, Some, None, Contains}
use Rattle.std.specs.List.{AllByRecursion, filter}
use Rattle.ext_host.specs.declared.past.Past.{Past}
use Rattle.ext_host.specs.declared.host.Host.{Host}

-- the host as a mark of this generation: all that it has but its architecture, its scope, its hierarchies and its marks
abbrev pub marked : ℕ → Host → Past
marked generation host = record { generation = generation; root = host.root; lower = host.lower; sysext = host.sysext; confext = host.confext; attached = host.attached; kept = host.kept }

-- Each mark is of a generation before this one. So it is in a store, where past trees are of generations from 1 up to the one
-- before the current one.
abbrev pub AreBefore : ℕ → List Past → Type 0
AreBefore generation marks = AllByRecursion (λ mark. mark.generation < generation) marks

-- the youngest of some marks, so many at the most: the oldest stand first
abbrev pub youngest : ℕ → List Past → List Past
youngest keep marks = drop (length marks - keep) marks

-- the same host with itself as a mark of this generation, of all its marks the youngest
abbrev pub with_mark : ℕ → ℕ → Host → Host
with_mark generation keep host = record host { past = youngest keep (host.past ++ marked generation host ∷ []) }

-- one of some marks, of this generation
pub record IsMark (marks : List Past) (generation : ℕ) (mark : Past) : Type 0 where
  pub among : Contains marks mark
  pub number : mark.generation ≡ generation

-- one of the marks is of this generation
abbrev pub HasMark : List Past → ℕ → Type 0
HasMark marks generation = (mark : Past) × IsMark marks generation mark

-- none of them is
abbrev pub HasNoMark : List Past → ℕ → Type 0
HasNoMark marks generation = (mark : Past) → ¬ IsMark marks generation mark

-- a mark of this generation, or none where there is none
abbrev pub FindsMark : ℕ → List Past → Option Past → Type 0
FindsMark generation marks None = HasNoMark marks generation
FindsMark generation marks (Some mark) = IsMark marks generation mark

-- the host with what a mark has; its architecture, its scope, its hierarchies and its marks stay
abbrev pub back_to : Past → Host → Host
back_to mark host = record host { root = mark.root; lower = mark.lower; sysext = mark.sysext; confext = mark.confext; attached = mark.attached; kept = mark.kept }

-- the mark is of another generation
abbrev pub is_other : ℕ → Past → Bool
is_other generation mark = not (nat_eq mark.generation generation)

-- the marks of other generations, in their order
abbrev pub others : ℕ → List Past → List Past
others generation marks = filter (is_other generation) marks

-- the same host without the mark of this generation
abbrev pub without_mark : ℕ → Host → Host
without_mark generation host = record host { past = others generation host.past }
