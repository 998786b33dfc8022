-- The machine that a store is: what each command makes of a state and what it replies, for the files that the depot has, where
-- these are told. What a command wants of the host it sees is one definition a command; what becomes of it is here, once for all
-- of them.
use Rattle.std.specs.Prelude.{not}
use Rattle.std.specs.Prelude.{◌≡◌, ℕ, ◌==◌, ◌⊎◌, List, [], ◌++◌, Option, Some, None}
use Rattle.ext_depot.specs.Depot.{DepotState, Files}
use Rattle.ext_tree.specs.Tree.{Entries}
use Rattle.ext_tree.specs.declared.stamp.Stamp.{Stamp}
use Rattle.ext_host.specs.Held.{HeldFile}
use Rattle.ext_host.specs.Shelf.{stored}
use Rattle.ext_host.specs.declared.body.Body.{Body}
use Rattle.ext_host.specs.declared.body.Body.TheVariants.{Here, Kept, Depot}
use Rattle.ext_host.specs.declared.host.Host.{Host}
use Rattle.ext_store_files.specs.Copying.{IsMissing, IsReadStamp}
use Rattle.ext_homes.specs.Giving.{lists_kept, trees_before}
use Rattle.ext_homes.specs.Placed.{Stored, IsHostPlaced, brought_told}
use Rattle.ext_homes.specs.Refused.{StopsAt}
use Rattle.ext_index.specs.ValidIndex.{written_text}
use Rattle.ext_gen.specs.Opened.{Generation}
use Rattle.ext_gen.specs.Preparing.{coming_number, contents_after, contents_of, host_before, limit_of}
use Rattle.ext_gen.specs.Store.{State, none, at, generation_in}
use Rattle.ext_cmd.specs.Refusals.{refusal_line}
use Rattle.ext_cmd.specs.Replies.{answer_text}
use Rattle.ext_cmd.specs.declared.answer.Answer.TheVariants.{Checked}
use Rattle.ext_cmd.specs.declared.command.Command.{Command}
use Rattle.ext_cmd.specs.declared.refusal.Refusal.{Refusal}
use Rattle.ext_cmd.specs.declared.refusal.Refusal.TheVariants.{Limit, Mismatch, NotInDepot}
use Rattle.ext_intents.specs.Check.{host_bytes, host_files}
use Rattle.ext_intents.specs.Intents.{Seen}
use Rattle.ext_intents.specs.Step.{Wants}
use Rattle.ext_intents.specs.declared.intent.Intent.{Intent}
use Rattle.ext_intents.specs.declared.intent.Intent.TheVariants.{Changes, Answers, Checks, Shows, Refuses}

-- a state and a reply; or the state stays, and the reply is the bytes of a file, or the line of a refusal
pub data Outcome : Type 0 where
  gives : State → List ℕ → Outcome
  shows : List ℕ → Outcome
  refuses : Refusal → Outcome

-- the state afterwards
abbrev pub state_after : State → Outcome → State
state_after s (gives t reply) = t
state_after s (shows bytes) = s
state_after s (refuses refusal) = s

-- the bytes that are written
abbrev pub reply_of : Outcome → List ℕ
reply_of (gives t reply) = reply
reply_of (shows bytes) = bytes
reply_of (refuses refusal) = refusal_line refusal

-- why it is refused, if it is
abbrev pub refusal_of : Outcome → Option Refusal
refusal_of (gives t reply) = None
refusal_of (shows bytes) = None
refusal_of (refuses refusal) = Some refusal

-- the bytes of a file, by where they are
abbrev pub bytes_at : State → Body → List ℕ
bytes_at s (Here bytes) = bytes
bytes_at s (Kept home) = contents_of s home
bytes_at s (Depot path) = []

-- its host, where it has one, with the bytes of the host's files
abbrev pub seen_in : State → Option Seen
seen_in none = None
seen_in (at g contents) = Some (record { host = g.host; number = g.number; newest = not (g.text == 1); told = λ held. stored (bytes_at (at g contents) held.body) })

-- the trees of its host; of no host, none
abbrev pub trees_in : State → List (Entries HeldFile)
trees_in s = trees_before (host_before (generation_in s))

-- which stamps it lists at which homes, and the bytes at each home
abbrev pub stored_of : State → Stored
stored_of s = record { lists = lists_kept (trees_in s); told = λ home. stored (contents_of s home) }

-- a depot that has these files
abbrev pub depot_of : Option Files → DepotState
depot_of files = record { contents = files; faults = 0 }

-- the next generation, of that host with a home for each of its files, in the newest text
pub record IsNextState (s : State) (files : Option Files) (host : Host) (u : State) : Type 0 where
  pub coming : Generation
  pub number : coming.number ≡ coming_number (generation_in s)
  pub text : coming.text ≡ written_text coming.host
  pub written : List (List ℕ)
  pub homes : IsHostPlaced (stored_of s) (depot_of files) coming.number host coming.host written
  pub is : u ≡ at coming (contents_after coming.number written s)

-- a file of the depot has other bytes than listed
pub record IsMismatch (depot : DepotState) (path : List (List ℕ)) (listed found : Stamp) (held : HeldFile) : Type 0 where
  pub body : held.body ≡ Depot path
  pub stamp : listed ≡ held.stamp
  pub read : IsReadStamp (brought_told depot held.body) listed found

-- the depot has no such file
pub record IsNotThere (depot : DepotState) (path : List (List ℕ)) (held : HeldFile) : Type 0 where
  pub body : held.body ≡ Depot path
  pub missing : IsMissing (brought_told depot held.body)

-- the first file that gets no home, in the order of the index
abbrev pub StopsFor : State → Option Files → Host → (HeldFile → Type 0) → Type 0
StopsFor s files host why =
    (limit_of (generation_in s) host ≡ None) × StopsAt (stored_of s) (depot_of files) (coming_number (generation_in s)) (host.root ++ host.lower) 0 why

-- why there is no next generation of the host, the first reason in this order: the coming index is too long, files that are
-- brought counted with a home in the coming generation; there is no number for that; a file, the first in the order of the
-- index, is not in the depot, or has other bytes there than listed
abbrev pub RefusesNext : State → Option Files → Host → Refusal → Type 0
RefusesNext s files host (Limit which) = limit_of (generation_in s) host ≡ Some which
RefusesNext s files host (NotInDepot path) = StopsFor s files host (IsNotThere (depot_of files) path)
RefusesNext s files host (Mismatch path listed found) = StopsFor s files host (IsMismatch (depot_of files) path listed found)
RefusesNext s files host _ = ⊥

-- another host in place of the one that the state has
abbrev pub Replaces : State → Option Files → Host → List ℕ → Outcome → Type 0
Replaces s files host reply outcome =
    ((u : State) × (limit_of (generation_in s) host ≡ None) × IsNextState s files host u × (outcome ≡ gives u reply))
    ⊎ ((refusal : Refusal) × RefusesNext s files host refusal × (outcome ≡ refuses refusal))

-- how many files the host has, and their bytes
abbrev pub checked_text : Host → List ℕ
checked_text host = answer_text (Checked (host_files host) (host_bytes host))

-- what `check` gives of a sound state
abbrev pub Counts : State → Outcome → Type 0
Counts none outcome = ⊥
Counts (at g contents) outcome = outcome ≡ gives (at g contents) (checked_text g.host)

-- the outcome of an intent
abbrev pub Comes : State → Option Files → Intent → Outcome → Type 0
Comes s files (Changes host answer) outcome = Replaces s files host (answer_text answer) outcome
Comes s files (Answers answer) outcome = outcome ≡ gives s (answer_text answer)
Comes s files Checks outcome = Counts s outcome
Comes s files (Shows held) outcome = outcome ≡ shows (bytes_at s held.body)
Comes s files (Refuses refusal) outcome = outcome ≡ refuses refusal

-- the step of a command: what it wants of the state, and the outcome of that
pub record Step (s : State) (files : Option Files) (command : Command) (outcome : Outcome) : Type 0 where
  pub intent : Intent
  pub wants : Wants (seen_in s) files command intent
  pub comes : Comes s files intent outcome
