-- What a command sees of a store, and what it may want of it.
use Rattle.std.specs.Prelude.{◌≡◌, ℕ, ◌+◌, Bool, List, [], Contains, Option, Some, None, IsSome}
use Rattle.ext_tree.specs.Tree.{Entries}
use Rattle.ext_host.specs.Drawn.{AreDrawnFrom, IsFileOf, trees_of}
use Rattle.ext_host.specs.Held.{HeldFile}
use Rattle.ext_host.specs.Shelf.{Told}
use Rattle.ext_host.specs.Valid.{IsValidHost}
use Rattle.ext_host.specs.declared.past.Past.{Past}
use Rattle.ext_host.specs.declared.host.Host.{Host}
use Rattle.ext_intents.specs.declared.intent.Intent.{Intent}
use Rattle.ext_intents.specs.declared.intent.Intent.TheVariants.{Changes, Answers, Checks, Shows, Refuses}

-- the host, the number of its generation, whether the store's text has its newest form, and what is told of the bytes of the
-- host's files
pub record Seen : Type 0 where
  pub host : Host
  pub number : ℕ
  pub newest : Bool
  pub told : HeldFile → Told

-- the trees of the host that is seen, those of its past among them; where none is, there are none
abbrev pub trees_seen : Option Host → List (Entries HeldFile)
trees_seen None = []
trees_seen (Some host) = trees_of host

-- what may be a past tree of the host that comes: one that the host has, or its own trees, under the number before the coming one
pub data MayBePast (coming : ℕ) (host : Host) (past : Past) : Type 0 where
  stays : Contains host.past past → MayBePast coming host past
  marks : past.generation + 1 ≡ coming → past.root ≡ host.root → past.lower ≡ host.lower → MayBePast coming host past

-- the past trees of the host that comes are some of these; where no host is seen, there are none
abbrev pub ArePasts : ℕ → Option Host → List Past → Type 0
ArePasts coming None pasts = pasts ≡ []
ArePasts coming (Some host) pasts = (past : Past) → Contains pasts past → MayBePast coming host past

-- a host in place of the one that is seen, in the generation with that number: it is valid, each file that it keeps is one of that
-- host, and its past trees are such
pub record IsPlanned (coming : ℕ) (seen : Option Host) (next : Host) : Type 0 where
  pub valid : IsValidHost next
  pub drawn : AreDrawnFrom (trees_seen seen) (trees_of next)
  pub past : ArePasts coming seen next.past

-- What may be wanted: such a host, an answer, a refusal; and of a host that is seen that its files are checked, or that one of
-- them is shown.
abbrev pub IsFit : ℕ → Option Host → Intent → Type 0
IsFit coming seen (Changes next answer) = IsPlanned coming seen next
IsFit coming seen (Answers answer) = Unit {0}
IsFit coming seen Checks = IsSome seen
IsFit coming seen (Shows held) = IsFileOf (trees_seen seen) held
IsFit coming seen (Refuses refusal) = Unit {0}

-- an answer or a refusal: nothing changes, and no file is read for the reply
abbrev pub IsAnswerOrRefusal : Intent → Type 0
IsAnswerOrRefusal (Changes next answer) = ⊥
IsAnswerOrRefusal (Answers answer) = Unit {0}
IsAnswerOrRefusal Checks = ⊥
IsAnswerOrRefusal (Shows held) = ⊥
IsAnswerOrRefusal (Refuses refusal) = Unit {0}
