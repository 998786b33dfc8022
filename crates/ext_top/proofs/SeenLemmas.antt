-- What a command sees of a store: what the disk tells of the files of its host is what a state has for which it stands.
use Rattle.std.specs.Prelude.{not}
use Rattle.std.proofs.Common.{◌≡◌, ℕ, zero, suc, ◌+◌, ◌==◌, ◌≤◌, true, List, inl, inr, Option, Some, None, IfSome, Result, Err, refl, sym, ap, subst, arith}
use Rattle.std.proofs.lemmas.Bool.{false≢true}
use Rattle.ext_depot.specs.Depot.{DepotState, Files}
use Rattle.ext_disk.specs.Disk.{BothTold, DiskState, IsDisk, Told, now}
use Rattle.ext_disk.specs.Since.{Rests}
use Rattle.ext_disk.proofs.ForCallers.{rests_then}
use Rattle.ext_host.specs.Drawn.{IsFileOf, trees_of}
use Rattle.ext_host.specs.Held.{HeldFile}
use Rattle.ext_host.specs.Shelf as shelf
use Rattle.ext_host.specs.Shelf.{IsFound, ShelfCause, stored}
use Rattle.ext_host.specs.declared.body.Body.{Body}
use Rattle.ext_host.specs.declared.body.Body.TheVariants.{Here, Kept, Depot}
use Rattle.ext_host.specs.declared.home.Home.{Home}
use Rattle.ext_host.specs.declared.host.Host.{Host}
use Rattle.ext_host.specs.declared.shelf.ShelfErr.{ShelfErr}
use Rattle.ext_host.specs.declared.shelf.ShelfErr.TheVariants as shelf_errors
use Rattle.ext_host.specs.Planning.{ServesHost}
use Rattle.ext_store_files.specs.HeldFiles.{IsListed, body_told, is_served, told_at}
use Rattle.ext_store_files.specs.Names.{home_path}
use Rattle.ext_store_files.specs.Removal.{MoreThan}
use Rattle.ext_store_files.specs.declared.fault.StoreFault.TheVariants.{OutOfMemory, DiskFault, DepotFault, Damaged}
use Rattle.ext_store_files.specs.LeftOvers.{most_left_overs}
use Rattle.ext_gen.specs.Opened.{Generation, IsOpened}
use Rattle.ext_gen.specs.Preparing.{is_left}
use Rattle.ext_gen.specs.Store.{Points, State, none, at, Stands, generation_in}
use Rattle.ext_gen.specs.Sound.{IsDurably}
use Rattle.ext_gen.proofs.ForCallers.{opened_is_served, opened_is_valid, opened_is_valid_for, stands_since_wider}
use Rattle.ext_find.specs.HostRelease.{ShelfFault}
use Rattle.ext_cmd.specs.declared.command.Command.{Command}
use Rattle.ext_intents.specs.Causes.{StepCause}
use Rattle.ext_intents.specs.Intents.{IsFit}
use Rattle.ext_intents.specs.Step.{TellAlike, Wants, WantsFirst, WantsOf}
use Rattle.ext_intents.specs.declared.intent.Intent.{Intent}
use Rattle.ext_intents.specs.declared.plan_err.PlanErr.{PlanErr}
use Rattle.ext_intents.specs.declared.plan_err.PlanErr.TheVariants as plan_errors
use Rattle.ext_intents.specs.Marks.{AreBefore}
use Rattle.ext_intents.proofs.ForCallers.{marks_before, wants_alike, wants_fit}
use Rattle.ext_top.specs.Applying.{AppliesEnds, AppliesTold, ApplyCause, IsPassed, IsShownReply, PointsAs, RestCause, SeeCause, of_plan, apply_err_of_shelf, seen_on}
use Rattle.ext_top.specs.Machine.{Comes, Outcome, Step, bytes_at, seen_in}
use Rattle.ext_top.specs.declared.applied.Applied.{Applied}
use Rattle.ext_top.specs.declared.applied.Reply.{Reply}
use Rattle.ext_top.specs.declared.applied.Reply.TheVariants.{Text, File, Refused}
use Rattle.ext_top.specs.declared.apply_err.ApplyErr.{ApplyErr}
use Rattle.ext_top.specs.declared.apply_err.ApplyErr.TheVariants.{Fault, Unfinished}
use Rattle.ext_top.proofs.ApplyingLemmas.{ends_wider, passed_wider, rested_told}
use Rattle.ext_top.proofs.CheckLemmas.{kept_is_listed}
use Rattle.ext_top.proofs.ReadingLemmas.{file_cause, no_damage}
use Rattle.ext_top.proofs.StoredLemmas.{told_home}

body_alike : (g : Generation) (contents : Home → List ℕ) (d : Told) (disk : DiskState) → IsOpened g → disk.told ≡ Some d → Stands (now d.places) (at g contents) → (held : HeldFile) (body : Body) → held.body ≡ body → IsFileOf (trees_of g.host) held
    → body_told disk body ≡ stored (bytes_at (at g contents) body)
body_alike g contents d disk opened told stands held (Here bytes) is file = refl
body_alike g contents d disk opened told stands held (Kept home) is file =
    told_home (at g contents) d disk told stands held.stamp home (kept_is_listed (trees_of g.host) held home held.stamp (record { body = is; stamp = refl }) file)
body_alike g contents d disk opened told stands held (Depot path) is file = absurd (false≢true (subst (λ b. is_served b ≡ true) is (opened_is_served g opened held file)))

-- the disk tells of each file of the host what the state has
told_alike : (g : Generation) (contents : Home → List ℕ) (d : Told) (disk : DiskState) → IsOpened g → disk.told ≡ Some d → Stands (now d.places) (at g contents)
    → TellAlike g.host (λ held. body_told disk held.body) (λ held. stored (bytes_at (at g contents) held.body))
told_alike g contents d disk opened told stands = λ held file. body_alike g contents d disk opened told stands held held.body refl file

-- so what is wanted of what is seen on the disk is wanted of the state
wants_of_state : (g : Generation) (d : Told) (disk : DiskState) (files : Option Files) (command : Command) (intent : Intent) → IsOpened g → disk.told ≡ Some d → Wants (seen_on (Some g) disk) files command intent
    → (s : State) → generation_in s ≡ Some g → IsDurably s d.places → Wants (seen_in s) files command intent
wants_of_state g d disk files command intent opened told wants none is durably = absurd (let wrong : None ≡ Some g = is in cc)
wants_of_state g d disk files command intent opened told wants (at h contents) is durably =
    let same : g ≡ h = let one : Some h ≡ Some g = is in cc in
    let here = subst IsOpened same opened in
    let seen = subst (λ x. Wants (seen_on (Some x) disk) files command intent) same wants in
    wants_alike h.host (λ held. body_told disk held.body) (λ held. stored (bytes_at (at h contents) held.body)) (told_alike h contents d disk here told durably.stands) h.number (not (h.text == 1)) files command intent seen

first_of_state : (d : Told) (files : Option Files) (command : Command) (intent : Intent) → WantsFirst command intent → (s : State) → generation_in s ≡ None → IsDurably s d.places → Wants (seen_in s) files command intent
first_of_state d files command intent wants none is durably = wants
first_of_state d files command intent wants (at h contents) is durably = absurd (let wrong : Some h ≡ None = is in cc)

-- of each state for which the disk durably stands
abbrev pub WantsHere : Option Generation → Option Files → Command → Intent → Told → Type 0
WantsHere from files command intent d = (s : State) → generation_in s ≡ from → IsDurably s d.places → Wants (seen_in s) files command intent

wants_here : (from : Option Generation) (disk : DiskState) (files : Option Files) (command : Command) (intent : Intent) (d : Told) → IfSome from IsOpened → disk.told ≡ Some d → Wants (seen_on from disk) files command intent → WantsHere from files command intent d
wants_here None disk files command intent d opened told wants = first_of_state d files command intent wants
wants_here (Some g) disk files command intent d opened told wants = wants_of_state g d disk files command intent opened told wants

-- of either, and so of each state for which a disk durably stands that tells
pub wants_of_all : (from : Option Generation) (disk : DiskState) (files : Option Files) (command : Command) (intent : Intent) → IfSome from IsOpened → Wants (seen_on from disk) files command intent → IfSome disk.told (WantsHere from files command intent)
wants_of_all from disk files command intent opened wants =
    elim disk.told as (λ o. disk.told ≡ o → IfSome o (WantsHere from files command intent)) [ None ↦ λ _. tt | Some d ↦ λ told. wants_here from disk files command intent d opened told wants ] refl

step_of : (from : Option Generation) (files later : Option Files) (command : Command) (intent : Intent) (result : Result Applied ApplyErr) (d e : Told) → later ≡ files → WantsHere from files command intent d
    → AppliesTold (λ s. Comes s later intent) from result d e → AppliesTold (λ s. Step s files command) from result d e
step_of from files later command intent result d e same wants applies = λ s is durably.
    let of = applies s is durably in
    let wider : (outcome : Outcome) → Comes s later intent outcome → Step s files command outcome
    = λ outcome comes. record { intent = intent; wants = wants s is durably; comes = subst (λ has. Comes s has intent outcome) same comes } in
    record {
      ends = ends_wider (Comes s later intent) (Step s files command) s result e.places wider of.ends;
      since = stands_since_wider (IsPassed (Comes s later intent) s) (IsPassed (Step s files command) s) e d.clock (λ x. passed_wider (Comes s later intent) (Step s files command) s x wider) of.since;
    }

pub steps_told : (from : Option Generation) (files later : Option Files) (command : Command) (intent : Intent) (result : Result Applied ApplyErr) (x y : Option Told) → later ≡ files → IfSome x (WantsHere from files command intent)
    → BothTold (AppliesTold (λ s. Comes s later intent) from result) x y → BothTold (AppliesTold (λ s. Step s files command) from result) x y
steps_told from files later command intent result None None same wants applies = tt
steps_told from files later command intent result None (Some e) same wants applies = absurd applies
steps_told from files later command intent result (Some d) None same wants applies = absurd applies
steps_told from files later command intent result (Some d) (Some e) same wants applies = step_of from files later command intent result d e same wants applies

see_ends : (P : Outcome → Type 0) (from : Option Generation) (old new : DiskState) (before after : DepotState) (error : ApplyErr) (s : State) (d : Told) → generation_in s ≡ from → old.told ≡ Some d → IsDurably s d.places
    → SeeCause from old new before after error → AppliesEnds P s (Err error) d.places
see_ends P from old new before after (Fault DiskFault) s d is told durably cause = inl durably
see_ends P from old new before after (Fault DepotFault) s d is told durably cause = durably
see_ends P from old new before after (Fault (Damaged damage)) s d is told durably cause = absurd (no_damage s from d old damage is told durably.stands cause)
see_ends P from old new before after Unfinished s d is told durably cause = absurd cause
see_ends P from old new before after (Fault OutOfMemory) s d is told durably cause = durably

pub unseen_applies : (P : State → Outcome → Type 0) (from : Option Generation) (old new : DiskState) (before after : DepotState) (error : ApplyErr) → new.told ≡ old.told → IfSome old.told IsDisk → SeeCause from old new before after error
    → BothTold (AppliesTold P from (Err error)) old.told new.told
unseen_applies P from old new before after error same disk cause =
    rested_told P from (Err error) old.told new.told same disk (λ d told s is durably. see_ends (P s) from old new before after error s d is told durably cause)

pub see_cause : (from : Option Generation) (old new : DiskState) (before after : DepotState) (error : ApplyErr) → SeeCause from old new before after error → ApplyCause from old new before after error
see_cause from old new before after (Fault DiskFault) cause = cause
see_cause from old new before after (Fault DepotFault) cause = cause
see_cause from old new before after (Fault (Damaged damage)) cause = cause
see_cause from old new before after Unfinished cause = absurd cause
see_cause from old new before after (Fault OutOfMemory) cause = tt

rest_see : (from : Option Generation) (old new : DiskState) (before after : DepotState) (error : ApplyErr) → RestCause from old new error → SeeCause from old new before after error
rest_see from old new before after (Fault DiskFault) cause = cause
rest_see from old new before after (Fault DepotFault) cause = absurd cause
rest_see from old new before after (Fault (Damaged damage)) cause = cause
rest_see from old new before after Unfinished cause = absurd cause
rest_see from old new before after (Fault OutOfMemory) cause = tt

shelf_cause : (old new : ℕ) (told : shelf.Told) (held : HeldFile) (e : ShelfErr) → ShelfFault old new told held e → ShelfCause old new told held e
shelf_cause old new told held shelf_errors.OutOfMemory fault = absurd fault
shelf_cause old new told held shelf_errors.Fault fault = fault
shelf_cause old new told held (shelf_errors.Damaged damage) fault = fault

pub step_cause : (IsFile : HeldFile → Type 0) (g : Generation) (old new : DiskState) (before after : DepotState) (error : PlanErr) → StepCause IsFile g.host (λ held. body_told old held.body) old.faults new.faults before.faults after.faults error
    → SeeCause (Some g) old new before after (of_plan error)
step_cause IsFile g old new before after plan_errors.DepotFault cause = cause
step_cause IsFile g old new before after (plan_errors.Shelf e) cause =
    rest_see (Some g) old new before after (apply_err_of_shelf e) (file_cause (Some g) old new cause.held e cause.file (shelf_cause old.faults new.faults (body_told old cause.held.body) cause.held e cause.cause))
step_cause IsFile g old new before after plan_errors.OutOfMemory cause = tt

body_same : (old mid : DiskState) → mid.told ≡ old.told → (body : Body) → body_told mid body ≡ body_told old body
body_same old mid same (Here bytes) = refl
body_same old mid same (Kept home) = ap (λ t. told_at t (home_path home.generation home.file)) same
body_same old mid same (Depot path) = refl

pub points_mid : (from : Option Generation) (old mid : DiskState) → mid.told ≡ old.told → PointsAs old from → PointsAs mid from
points_mid from old mid same points = subst (λ t. IfSome t (λ (d : Told). Points (now d.places) from)) (sym same) points

pub shown_since : (from : Option Generation) (old mid new : DiskState) (reply : Reply) → Rests old mid → IsShownReply from mid new reply → IsShownReply from old new reply
shown_since from old mid new (Text text) rests shown = tt
shown_since from old mid new (File held) rests shown =
    (shown.0, shown.1, rests_then old mid new rests shown.2, subst (λ t. IsListed t held.stamp) (body_same old mid rests.told held.body) shown.3)
shown_since from old mid new (Refused refusal) rests shown = tt

pub cause_mid : (from : Option Generation) (old mid new : DiskState) (before between after : DepotState) (error : ApplyErr) → Rests old mid → before.faults ≤ between.faults → ApplyCause from mid new between after error → ApplyCause from old new before after error
cause_mid from old mid new before between after (Fault DiskFault) rests le (inl more) = let low = rests.count in inl (omega arith)
cause_mid from old mid new before between after (Fault DiskFault) rests le (inr most) = inr most
cause_mid from old mid new before between after (Fault DepotFault) rests le (inl more) = inl (omega arith)
cause_mid from old mid new before between after (Fault DepotFault) rests le (inr most) = inr most
cause_mid from old mid new before between after (Fault (Damaged damage)) rests le cause = record {
  lists = cause.lists;
  differs = subst (λ t. IsFound damage.listed (told_at t (home_path damage.home.generation damage.home.file)) damage.found) rests.told cause.differs;
}
cause_mid from old mid new before between after Unfinished rests le cause = subst (λ t. IfSome t (λ (d : Told). MoreThan most_left_overs (is_left from) d.places)) rests.told cause
cause_mid from old mid new before between after (Fault OutOfMemory) rests le cause = tt

pub applies_since : (P : State → Outcome → Type 0) (from : Option Generation) (result : Result Applied ApplyErr) (x mid y : Option Told) → mid ≡ x → BothTold (AppliesTold P from result) mid y → BothTold (AppliesTold P from result) x y
applies_since P from result x mid y same applies = subst (λ t. BothTold (AppliesTold P from result) t y) same applies

-- a shelf over it serves the files of its host
pub opened_serves : (g : Generation) (host : Host) → host ≡ g.host → IsOpened g → ServesHost (λ held. is_served held.body) host
opened_serves g host same opened =
    let trees = trees_of g.host in
    subst (ServesHost (λ held. is_served held.body)) (sym same) (record {
      root = λ path attributes held stands. opened_is_served g opened held (record { tree = g.host.root; among = (zero, omega arith, refl); file = record { path = path; attributes = attributes; stands = stands } });
      lower = λ path attributes held stands. opened_is_served g opened held (record { tree = g.host.lower; among = (suc zero, omega arith, refl); file = record { path = path; attributes = attributes; stands = stands } });
    })

-- what is wanted of its host is what is wanted of what is seen, and fit for it
pub step_wants : (g : Generation) (disk : DiskState) (files : Option Files) (command : Command) (intent : Intent) (host : Host) (number text : ℕ) → host ≡ g.host → number ≡ g.number → text ≡ g.text
    → WantsOf (record { host = host; number = number; newest = not (text == 1); told = λ held. body_told disk held.body }) files command intent → Wants (seen_on (Some g) disk) files command intent
step_wants g disk files command intent host number text same generation form wants =
    subst (λ h. WantsOf (record { host = h; number = g.number; newest = not (g.text == 1); told = λ held. body_told disk held.body }) files command intent) same
    (subst (λ n. WantsOf (record { host = host; number = n; newest = not (g.text == 1); told = λ held. body_told disk held.body }) files command intent) generation
    (subst (λ n. WantsOf (record { host = host; number = number; newest = not (n == 1); told = λ held. body_told disk held.body }) files command intent) form wants))

-- its marks are of generations before its own
pub opened_before : (g : Generation) (host : Host) (number : ℕ) → host ≡ g.host → number ≡ g.number → IsOpened g → AreBefore number host.past
opened_before g host number same generation opened =
    subst (λ n. AreBefore n host.past) (sym generation)
    (subst (λ (h : Host). AreBefore g.number h.past) (sym same) (marks_before g.number g.host.past (opened_is_valid_for g opened).past))

pub step_fits : (g : Generation) (disk : DiskState) (files : Option Files) (command : Command) (intent : Intent) → IsOpened g → Wants (seen_on (Some g) disk) files command intent → IsFit (g.number + 1) (Some g.host) intent
step_fits g disk files command intent opened wants = wants_fit (record { host = g.host; number = g.number; newest = not (g.text == 1); told = λ held. body_told disk held.body }) files command intent (opened_is_valid g opened) wants
