-- How a run over a store ends, by the machine: a run of a list of lines, of which one command is a list of one. It goes on
-- from line to line while each is done or refused. Where a line stops it, the table below says for each reason for which
-- state the store stands then, and which part of the line's reply was written. No command is named here.
use Rattle.std.specs.Prelude.{◌≡◌, ℕ, ◌<◌, ◌⊎◌, List, [], ◌∷◌, ◌++◌, length, codes, decimal, Option, Result, Ok, Err}
use Rattle.ext_disk.specs.Disk.{Places}
use Rattle.ext_depot.specs.Depot.{Files}
use Rattle.ext_gen.specs.Store.{State}
use Rattle.ext_gen.specs.Sound.{IsEither, IsDurably}
use Rattle.ext_cmd.specs.Replies.{lined}
use Rattle.ext_cmd.specs.declared.command.Command.{Command}
use Rattle.ext_cmd.specs.declared.refusal.Refusal.{Refusal}
use Rattle.ext_top.specs.Machine.{Outcome, gives, shows, Step, refusal_of, reply_of, state_after}
use Rattle.ext_top.specs.declared.stop.Stop.{Stop}
use Rattle.ext_top.specs.declared.stop.Stop.TheVariants.{WriteFault, DiskFault, DepotFault, OutOfMemory, BadStore, Unfinished}

-- a command; or words that are none, with the place of their first fault; or words that found no memory to be read
pub data Line : Type 0 where
  does : Command → Line
  wrong : ℕ → Line
  unread : Line

-- the reply to words outside the grammar
abbrev pub usage_line : ℕ → List ℕ
usage_line place = lined (codes "usage " ++ decimal place)

-- the outcome of a line: the step of its command, or nothing but that reply; a line that was not read has none
abbrev pub LineComes : State → Option Files → Line → Outcome → Type 0
LineComes s files (does command) outcome = Step s files command outcome
LineComes s files (wrong place) outcome = outcome ≡ gives s (usage_line place)
LineComes s files unread outcome = ⊥

-- for which state a disk stands: durably for one, or for one of two
pub data Standing : Type 0 where
  durable : State → Standing
  between : State → State → Standing

-- the disk stands so
abbrev pub StandsAs : Standing → Places → Type 0
StandsAs (durable s) d = IsDurably s d
StandsAs (between s u) d = IsEither s u d

-- nothing came of the line
abbrev pub IsUndone : State → Standing → List ℕ → Type 0
IsUndone s standing part = (standing ≡ durable s) × (part ≡ [])

-- the line was done, and some of its reply, not all, was written
pub record Cuts (s : State) (files : Option Files) (line : Line) (standing : Standing) (part : List ℕ) : Type 0 where
  pub outcome : Outcome
  pub comes : LineComes s files line outcome
  pub stands : standing ≡ durable (state_after s outcome)
  pub rest : List ℕ
  pub reply : reply_of outcome ≡ part ++ rest
  pub not_all : 0 < length rest

-- the line was being done: the store stands for the state before it or the one after it, and nothing was written
pub record Wavers (s : State) (files : Option Files) (line : Line) (standing : Standing) (part : List ℕ) : Type 0 where
  pub outcome : Outcome
  pub comes : LineComes s files line outcome
  pub stands : standing ≡ between s (state_after s outcome)
  pub nothing : part ≡ []

-- a file was being shown: a prefix of its bytes was written, which may be all of them
pub record Tears (s : State) (files : Option Files) (line : Line) (standing : Standing) (part : List ℕ) : Type 0 where
  pub bytes : List ℕ
  pub comes : LineComes s files line (shows bytes)
  pub stands : standing ≡ durable s
  pub rest : List ℕ
  pub reply : bytes ≡ part ++ rest

-- The table of exits. From a store that durably stands for a state no line stops for a bad store.
abbrev pub StopsWith : Stop → State → Option Files → Line → Standing → List ℕ → Type 0
StopsWith WriteFault s files line standing part = Cuts s files line standing part
StopsWith DiskFault s files line standing part =
    IsUndone s standing part ⊎ (Wavers s files line standing part ⊎ Tears s files line standing part)
StopsWith DepotFault s files line standing part = IsUndone s standing part
StopsWith OutOfMemory s files line standing part = IsUndone s standing part ⊎ Tears s files line standing part
StopsWith (BadStore why) s files line standing part = ⊥
StopsWith Unfinished s files line standing part = IsUndone s standing part

-- how the lines end from a state on: the result, for which state the store stands then, and the bytes that were written. A
-- result that is no stop is the refusal of the last line, if it was refused. No line is looked at after one that stops.
abbrev pub EndsLines : Option Refusal → State → Option Files → List Line → Result (Option Refusal) Stop → Standing → List ℕ → Type 0
EndsLines last s files [] result standing bytes = (result ≡ Ok last) × (standing ≡ durable s) × (bytes ≡ [])
EndsLines last s files (line ∷ lines) result standing bytes =
    ((stop : Stop) × (result ≡ Err stop) × (lines ≡ []) × StopsWith stop s files line standing bytes)
    ⊎ ((outcome : Outcome) × (more : List ℕ) × LineComes s files line outcome × (bytes ≡ reply_of outcome ++ more)
    × EndsLines (refusal_of outcome) (state_after s outcome) files lines result standing more)

-- the states on the way: the one at the beginning, and the one after each of the first lines
abbrev pub IsOnTheWay : State → Option Files → List Line → State → Type 0
IsOnTheWay s files [] x = x ≡ s
IsOnTheWay s files (line ∷ lines) x =
    (x ≡ s) ⊎ ((outcome : Outcome) × LineComes s files line outcome × IsOnTheWay (state_after s outcome) files lines x)
