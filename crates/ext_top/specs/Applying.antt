-- What carrying out a command leaves: of a store that durably stands for a state, the one that the machine gives.
use Rattle.std.specs.Prelude.{not}
use Rattle.std.specs.Prelude.{◌≡◌, ◌==◌, true, ◌⊎◌, Option, Some, None, IfSome, Result, Ok, Err}
use Rattle.ext_text.specs.Causes.{Rose}
use Rattle.ext_disk.specs.Disk.{Places, Told, DiskState, now}
use Rattle.ext_disk.specs.Since.{Rests}
use Rattle.ext_depot.specs.Depot.{DepotState}
use Rattle.ext_host.specs.Drawn.{IsFileOf}
use Rattle.ext_host.specs.Shelf.{IsFound}
use Rattle.ext_host.specs.declared.shelf.ShelfErr.{ShelfErr}
use Rattle.ext_host.specs.declared.damage.Damage.{Damage}
use Rattle.ext_store_files.specs.HeldFiles.{IsListed, body_told, is_served}
use Rattle.ext_store_files.specs.Removal.{MoreThan}
use Rattle.ext_store_files.specs.declared.fault.StoreFault.TheVariants.{OutOfMemory, DiskFault, DepotFault, Damaged}
use Rattle.ext_store_files.specs.Fault.{fault_of_shelf}
use Rattle.ext_store_files.specs.LeftOvers.{most_left_overs}
use Rattle.ext_homes.specs.Giving.{home_told, lists_kept, trees_before}
use Rattle.ext_gen.specs.Preparing.{host_before, is_left}
use Rattle.ext_gen.specs.Opened.{Generation}
use Rattle.ext_gen.specs.Store.{State, generation_in, Points}
use Rattle.ext_gen.specs.Sound.{IsEither, IsDurably, StandsSince}
use Rattle.ext_gen.specs.declared.errors.StoreErr.{StoreErr}
use Rattle.ext_gen.specs.declared.errors.StoreErr.TheVariants as store_errors
use Rattle.ext_cmd.specs.declared.refusal.Refusal.{Refusal}
use Rattle.ext_cmd.specs.declared.refusal.Refusal.TheVariants as refusals
use Rattle.ext_intents.specs.Intents.{Seen}
use Rattle.ext_intents.specs.declared.plan_err.PlanErr.{PlanErr}
use Rattle.ext_intents.specs.declared.plan_err.PlanErr.TheVariants as plan_errors
use Rattle.ext_top.specs.Machine.{Outcome, gives, shows, refuses, bytes_at, state_after, trees_in}
use Rattle.ext_top.specs.declared.applied.Applied.{Applied}
use Rattle.ext_top.specs.declared.applied.Reply.{Reply}
use Rattle.ext_top.specs.declared.applied.Reply.TheVariants.{Text, File, Refused}
use Rattle.ext_top.specs.declared.apply_err.ApplyErr.{ApplyErr}
use Rattle.ext_top.specs.declared.apply_err.ApplyErr.TheVariants.{Fault, Unfinished}

-- why a file is not given, as an error of carrying out
abbrev pub apply_err_of_shelf : ShelfErr → ApplyErr
apply_err_of_shelf e = Fault (fault_of_shelf e)

-- why nothing was planned, as an error of carrying out
abbrev pub of_plan : PlanErr → ApplyErr
of_plan plan_errors.DepotFault = Fault DepotFault
of_plan (plan_errors.Shelf e) = apply_err_of_shelf e
of_plan plan_errors.OutOfMemory = Fault OutOfMemory

-- the host that was opened, with what the disk tells of the host's files
abbrev pub seen_on : Option Generation → DiskState → Option Seen
seen_on None disk = None
seen_on (Some g) disk = Some (record { host = g.host; number = g.number; newest = not (g.text == 1); told = λ held. body_told disk held.body })

-- the disk, where it is told, points to what was opened
abbrev pub PointsAs : DiskState → Option Generation → Type 0
PointsAs disk opened = IfSome disk.told (λ d. Points (now d.places) opened)

-- the reply is that of the outcome
abbrev pub IsReply : State → Reply → Outcome → Type 0
IsReply s (Text text) outcome = (u : State) × (outcome ≡ gives u text)
IsReply s (File held) outcome = (outcome ≡ shows (bytes_at s held.body)) × IsFileOf (trees_in s) held
IsReply s (Refused refusal) outcome = outcome ≡ refuses refusal

-- what was applied is the outcome: the state after it, and its reply
pub record IsApplied (s : State) (outcome : Outcome) (applied : Applied) : Type 0 where
  pub opened : applied.opened ≡ generation_in (state_after s outcome)
  pub reply : IsReply s applied.reply outcome

-- Done or refused: durably the state after an outcome of these. A fault of the disk: durably the state before, or there is such
-- an outcome and the store stands for the state before it or the one after it. Any other error: durably the state before; no
-- file of such a store is damaged.
abbrev pub AppliesEnds : (Outcome → Type 0) → State → Result Applied ApplyErr → Places → Type 0
AppliesEnds P s (Ok applied) e = (outcome : Outcome) × P outcome × IsApplied s outcome applied × IsDurably (state_after s outcome) e
AppliesEnds P s (Err (Fault DiskFault)) e = IsDurably s e ⊎ ((outcome : Outcome) × P outcome × IsEither s (state_after s outcome) e)
AppliesEnds P s (Err (Fault DepotFault)) e = IsDurably s e
AppliesEnds P s (Err (Fault (Damaged damage))) e = ⊥
AppliesEnds P s (Err Unfinished) e = IsDurably s e
AppliesEnds P s (Err (Fault OutOfMemory)) e = IsDurably s e

-- the state before, or the one after an outcome of these
abbrev pub IsPassed : (Outcome → Type 0) → State → State → Type 0
IsPassed P s x = (x ≡ s) ⊎ ((outcome : Outcome) × P outcome × (x ≡ state_after s outcome))

-- and each tree that a stop since may have left stands for one of them
pub record Applies (P : Outcome → Type 0) (s : State) (result : Result Applied ApplyErr) (d e : Told) : Type 0 where
  pub ends : AppliesEnds P s result e.places
  pub since : StandsSince (IsPassed P s) e d.clock

-- what carrying out leaves on a disk that tells
abbrev pub AppliesTold : (State → Outcome → Type 0) → Option Generation → Result Applied ApplyErr → Told → Told → Type 0
AppliesTold P opened result d e = (s : State) → generation_in s ≡ opened → IsDurably s d.places → Applies (P s) s result d e

-- the host lists the file, and another one stands at its home, where that is told
pub record IsDamage (opened : Option Generation) (disk : DiskState) (damage : Damage) : Type 0 where
  pub lists : lists_kept (trees_before (host_before opened)) damage.listed damage.home
  pub differs : IsFound damage.listed (home_told disk damage.home) damage.found

-- more left-overs stand there than one command removes
abbrev pub HasTooManyLeftOvers : Option Generation → DiskState → Type 0
HasTooManyLeftOvers opened disk = IfSome disk.told (λ d. MoreThan most_left_overs (is_left opened) d.places)

-- why a command was not carried out
abbrev pub ApplyCause : Option Generation → DiskState → DiskState → DepotState → DepotState → ApplyErr → Type 0
ApplyCause opened old new before after (Fault DiskFault) = Rose old.faults new.faults
ApplyCause opened old new before after (Fault DepotFault) = Rose before.faults after.faults
ApplyCause opened old new before after (Fault (Damaged damage)) = IsDamage opened old damage
ApplyCause opened old new before after Unfinished = HasTooManyLeftOvers opened old
ApplyCause opened old new before after (Fault OutOfMemory) = Unit {0}

-- what is said where a command is unfinished
abbrev pub WhereUnfinished : Type 0 → ApplyErr → Type 0
WhereUnfinished P (Fault fault) = Unit {0}
WhereUnfinished P Unfinished = P

-- what is said of a damage that a command ended with
abbrev pub WhereDamaged : (Damage → Type 0) → ApplyErr → Type 0
WhereDamaged P (Fault DiskFault) = Unit {0}
WhereDamaged P (Fault DepotFault) = Unit {0}
WhereDamaged P (Fault (Damaged damage)) = P damage
WhereDamaged P (Fault OutOfMemory) = Unit {0}
WhereDamaged P Unfinished = Unit {0}

-- why a command that only reads the store was not carried out
abbrev pub RestCause : Option Generation → DiskState → DiskState → ApplyErr → Type 0
RestCause opened old new (Fault DiskFault) = Rose old.faults new.faults
RestCause opened old new (Fault DepotFault) = ⊥
RestCause opened old new (Fault (Damaged damage)) = IsDamage opened old damage
RestCause opened old new Unfinished = ⊥
RestCause opened old new (Fault OutOfMemory) = Unit {0}

-- why it was not found what a command wants: only the host's files and the depot were read
abbrev pub SeeCause : Option Generation → DiskState → DiskState → DepotState → DepotState → ApplyErr → Type 0
SeeCause opened old new before after (Fault DiskFault) = Rose old.faults new.faults
SeeCause opened old new before after (Fault DepotFault) = Rose before.faults after.faults
SeeCause opened old new before after (Fault (Damaged damage)) = IsDamage opened old damage
SeeCause opened old new before after Unfinished = ⊥
SeeCause opened old new before after (Fault OutOfMemory) = Unit {0}

-- a file that is to be written is here, or kept under the number of one
abbrev pub IsServedReply : Reply → Type 0
IsServedReply (Text text) = Unit {0}
IsServedReply (File held) = is_served held.body ≡ true
IsServedReply (Refused refusal) = Unit {0}

-- and it is one of the host's, with its stamp where its bytes are told; nothing was done to the disk
abbrev pub IsShownReply : Option Generation → DiskState → DiskState → Reply → Type 0
IsShownReply opened old new (Text text) = Unit {0}
IsShownReply opened old new (File held) =
    (is_served held.body ≡ true) × IsFileOf (trees_before (host_before opened)) held × Rests old new
    × IsListed (body_told old held.body) held.stamp
IsShownReply opened old new (Refused refusal) = Unit {0}

-- an error of a preparation: it never finds a store broken
abbrev pub IsOfPreparing : StoreErr → Type 0
IsOfPreparing (store_errors.Fault fault) = Unit {0}
IsOfPreparing (store_errors.Broken line) = ⊥
IsOfPreparing (store_errors.Mismatch path listed found) = Unit {0}
IsOfPreparing (store_errors.NotInDepot path) = Unit {0}
IsOfPreparing store_errors.Unfinished = Unit {0}
IsOfPreparing (store_errors.Limit which) = Unit {0}

-- some of them are refusals of the command
abbrev pub refusal_from : StoreErr → Result Refusal ApplyErr
refusal_from (store_errors.Fault fault) = Err (Fault fault)
refusal_from (store_errors.Broken line) = Err (Fault OutOfMemory)
refusal_from (store_errors.Mismatch path listed found) = Ok (refusals.Mismatch path listed found)
refusal_from (store_errors.NotInDepot path) = Ok (refusals.NotInDepot path)
refusal_from store_errors.Unfinished = Err Unfinished
refusal_from (store_errors.Limit which) = Ok (refusals.Limit which)
