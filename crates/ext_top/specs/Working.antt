-- What a command does to the disk of a store, whatever that is: at which paths something is made or removed, how much is
-- appended, which generations stand afterwards; and, where it was done or refused, what was found on the way there.
use Rattle.std.specs.Prelude.{◌≡◌, ◌⊎◌, ℕ, ◌+◌, ◌++◌, ◌≤◌, true, List, length, Option, Some, None, IfSome, Result, Ok, Err}
use Rattle.std.specs.List.{AllByRecursion, sum_by}
use Rattle.std.specs.Option.{is_some}
use Rattle.std.specs.Io.KnownBytes.{Appends}
use Rattle.ext_disk.specs.Disk.{Places, Told, DiskState, BothTold}
use Rattle.ext_depot.specs.Depot.{DepotState, Files}
use Rattle.ext_io.specs.SinkState.{SinkState}
use Rattle.ext_host.specs.Held.{HeldFile}
use Rattle.ext_host.specs.Shelf.{IsKeptAs, IsTold}
use Rattle.ext_host.specs.declared.damage.Damage.{Damage}
use Rattle.ext_host.specs.declared.host.Host.{Host}
use Rattle.ext_store_files.specs.Appended.{raised}
use Rattle.ext_store_files.specs.HeldFiles.{IsListed, body_told}
use Rattle.ext_store_files.specs.Names.{IsGeneration, current_path, current_text, generation_path}
use Rattle.ext_store_files.specs.Removal.{AtMost}
use Rattle.ext_store_files.specs.LeftOvers.{most_left_overs}
use Rattle.ext_store_files.specs.declared.fault.StoreFault.TheVariants.{OutOfMemory, DiskFault, DepotFault, Damaged}
use Rattle.ext_homes.specs.Brought.{is_brought}
use Rattle.ext_homes.specs.Giving.{stored_by}
use Rattle.ext_homes.specs.Placed.{IsHostPlaced, brought_told}
use Rattle.ext_homes.specs.Refused.{IsDamaged, StopsAt}
use Rattle.ext_gen.specs.Checking.{IsAsListed, files_of_host}
use Rattle.ext_gen.specs.Opened.{Generation}
use Rattle.ext_gen.specs.Preparing.{coming_number, host_before, is_left, is_needed, limit_of, most_bytes_of, most_files}
use Rattle.ext_gen.specs.PreparingIndex.{coming_index}
use Rattle.ext_gen.specs.PreparingPaths.{ChangesAt, FewGone}
use Rattle.ext_cmd.specs.Refusals.{refusal_line}
use Rattle.ext_cmd.specs.Replies.{answer_text}
use Rattle.ext_cmd.specs.declared.answer.Answer.{Answer}
use Rattle.ext_cmd.specs.declared.command.Command.{Command}
use Rattle.ext_cmd.specs.declared.refusal.Refusal.{Refusal}
use Rattle.ext_cmd.specs.declared.refusal.Refusal.TheVariants.{Limit, Mismatch, NotInDepot}
use Rattle.ext_intents.specs.Causes.{IsStepFile}
use Rattle.ext_intents.specs.Step.{Wants}
use Rattle.ext_intents.specs.declared.intent.Intent.{Intent}
use Rattle.ext_intents.specs.declared.intent.Intent.TheVariants.{Changes, Answers, Checks, Shows, Refuses}
use Rattle.ext_top.specs.Applying.{seen_on}
use Rattle.ext_top.specs.Machine.{IsMismatch, IsNotThere, checked_text}
use Rattle.ext_top.specs.declared.applied.Applied.{Applied}
use Rattle.ext_top.specs.declared.applied.Reply.{Reply}
use Rattle.ext_top.specs.declared.applied.Reply.TheVariants.{Text, File, Refused}
use Rattle.ext_top.specs.declared.apply_err.ApplyErr.{ApplyErr}
use Rattle.ext_top.specs.declared.apply_err.ApplyErr.TheVariants.{Fault, Unfinished}

-- nothing is made, removed or appended
pub record StaysTold (d e : Told) : Type 0 where
  pub now : (p : List (List ℕ)) → (e.places p).node ≡ (d.places p).node
  pub appended : e.appended ≡ d.appended

-- at a path stands what stood there; or nothing, where it is a left-over's; or it is one at which a change makes something: the
-- coming generation, its index and its files, with their folders, `next` and `current`
pub data ReplacesAt (from : Option Generation) (next : Host) (d e : Places) (p : List (List ℕ)) : Type 0 where
  changes : ChangesAt (is_left from) (coming_number from) (most_files next) d e p → ReplacesAt from next d e p
  current : p ≡ current_path → ReplacesAt from next d e p

-- a host is put in place of the one before; of what stood at and below left-overs no more is gone than one command removes, and no
-- more is appended than the files that it brings, the coming index and the line of `next`
pub record ReplacesTold (from : Option Generation) (next : Host) (d e : Told) : Type 0 where
  pub now : (p : List (List ℕ)) → ReplacesAt from next d.places e.places p
  pub few : FewGone (is_left from) d.places e.places
  pub appended : e.appended ≤ d.appended + most_bytes_of (coming_number from) next

-- an intent to put another host there
abbrev pub next_of : Intent → Option Host
next_of (Changes next answer) = Some next
next_of (Answers answer) = None
next_of Checks = None
next_of (Shows held) = None
next_of (Refuses refusal) = None

-- where no other host is wanted, nothing is done
abbrev pub WorksAsWanted : Option Generation → Option Host → Told → Told → Type 0
WorksAsWanted from None d e = StaysTold d e
WorksAsWanted from (Some next) d e = ReplacesTold from next d e

-- what is wanted does so; or nothing is done, since it ended before
abbrev pub WorksFor : (Intent → Type 0) → Option Generation → Told → Told → Type 0
WorksFor W from d e = StaysTold d e ⊎ ((intent : Intent) × W intent × WorksAsWanted from (next_of intent) d e)

-- The left-overs were few enough; of generations there is the coming one, and those that are needed; and what was appended is
-- exactly the files that were written, the index, and the line of `next`.
pub record ReplacedTold (from : Option Generation) (coming : Generation) (written : List (List ℕ)) (d e : Told) : Type 0 where
  pub few : AtMost most_left_overs (is_left from) d.places
  pub generations : (m : ℕ) → IsGeneration m → is_some (e.places (generation_path m)).node ≡ true
      → (m ≡ coming.number) ⊎ (is_needed from m ≡ true)
  pub appended : e.appended
      ≡ raised d.appended (sum_by length written + (length (coming_index coming.number coming.host) + length (current_text coming.number)))

-- Another host was put there. Each file that it brings has the least home at which the store has the same bytes, where all that
-- were compared with it are as listed; or it was written, and the written ones have their numbers in this order.
pub record Replaced (from : Option Generation) (next : Host) (old new : DiskState) (depot : DepotState) (coming : Generation) : Type 0 where
  pub number : coming.number ≡ coming_number from
  pub written : List (List ℕ)
  pub homes : IsHostPlaced (stored_by (host_before from) old) depot coming.number next coming.host written
  pub told : BothTold (ReplacedTold from coming written) old.told new.told

-- no limit was passed, the left-overs were few enough, and this is the first file that got no home
pub record StopsChange (from : Option Generation) (next : Host) (old : DiskState) (depot : DepotState) (why : HeldFile → Type 0) : Type 0 where
  pub limit : limit_of from next ≡ None
  pub few : IfSome old.told (λ d. AtMost most_left_overs (is_left from) d.places)
  pub stops : StopsAt (stored_by (host_before from) old) depot (coming_number from) (next.root ++ next.lower) 0 why

-- why a change was refused: by the limit that it passes, before anything was done; or by the first file that got no home, which the
-- depot doesn't have, or has with other bytes than listed
abbrev pub RefusesChange : Option Generation → Host → DiskState → DepotState → Refusal → Type 0
RefusesChange from next old depot (Limit which) = limit_of from next ≡ Some which
RefusesChange from next old depot (NotInDepot path) = StopsChange from next old depot (IsNotThere depot path)
RefusesChange from next old depot (Mismatch path listed found) = StopsChange from next old depot (IsMismatch depot path listed found)
RefusesChange from next old depot _ = ⊥

-- each file of the host has its stamp, where its bytes are told
abbrev pub AreAllAsListed : Option Generation → DiskState → Type 0
AreAllAsListed None disk = Unit {0}
AreAllAsListed (Some g) disk = AllByRecursion (IsAsListed disk) (files_of_host g.host)

-- what was met of an intent, by the refusal, if there is one, and by the generation that the store has then
abbrev pub Met : Intent → Option Generation → DiskState → DiskState → DepotState → Option Refusal → Option Generation → Type 0
Met (Changes next answer) from old new depot None after = (coming : Generation) × (after ≡ Some coming) × Replaced from next old new depot coming
Met (Changes next answer) from old new depot (Some refusal) after = (after ≡ from) × RefusesChange from next old depot refusal
Met (Answers answer) from old new depot refusal after = (after ≡ from) × (refusal ≡ None)
Met Checks from old new depot refusal after = (after ≡ from) × (refusal ≡ None) × AreAllAsListed from old
Met (Shows held) from old new depot refusal after = (after ≡ from) × (refusal ≡ None) × IsListed (body_told old held.body) held.stamp
Met (Refuses why) from old new depot refusal after = (after ≡ from) × (refusal ≡ Some why)

-- the reply is this text, or a refusal
abbrev pub IsTextReply : List ℕ → Reply → Type 0
IsTextReply text (Text reply) = reply ≡ text
IsTextReply text (File held) = ⊥
IsTextReply text (Refused refusal) = Unit {0}

-- the reply is this file, or a refusal
abbrev pub IsHeldReply : HeldFile → Reply → Type 0
IsHeldReply held (Text reply) = ⊥
IsHeldReply held (File file) = file ≡ held
IsHeldReply held (Refused refusal) = Unit {0}

-- the reply to what is wanted, where it is no refusal
abbrev pub IsReplyTo : Intent → Option Generation → Reply → Type 0
IsReplyTo (Changes next answer) from reply = IsTextReply (answer_text answer) reply
IsReplyTo (Answers answer) from reply = IsTextReply (answer_text answer) reply
IsReplyTo Checks from reply = IfSome from (λ g. IsTextReply (checked_text g.host) reply)
IsReplyTo (Shows held) from reply = IsHeldReply held reply
IsReplyTo (Refuses why) from reply = Unit {0}

-- some bytes were written that are the file's, where those are told, and as many as are listed
pub record WritesHeld (disk : DiskState) (held : HeldFile) (k l : SinkState) : Type 0 where
  pub bytes : List ℕ
  pub told : IsTold (body_told disk held.body) bytes
  pub size : length bytes ≡ held.stamp.size
  pub written : Appends k.written l.written bytes

-- what was written for what is wanted, where it is not refused: the line of an answer, or the bytes of a file
abbrev pub WritesAnswer : Intent → Option Generation → DiskState → SinkState → SinkState → Type 0
WritesAnswer (Changes next answer) from disk k l = Appends k.written l.written (answer_text answer)
WritesAnswer (Answers answer) from disk k l = Appends k.written l.written (answer_text answer)
WritesAnswer Checks from disk k l = IfSome from (λ g. Appends k.written l.written (checked_text g.host))
WritesAnswer (Shows held) from disk k l = WritesHeld disk held k l
WritesAnswer (Refuses why) from disk k l = ⊥

-- what was written, by the refusal, if there is one: its line
abbrev pub WritesMet : Intent → Option Generation → DiskState → SinkState → SinkState → Option Refusal → Type 0
WritesMet intent from disk k l None = WritesAnswer intent from disk k l
WritesMet intent from disk k l (Some refusal) = Appends k.written l.written (refusal_line refusal)

-- a host is wanted that passes no limit of a store
abbrev pub WantsWithin : (Intent → Type 0) → Option Generation → Type 0
WantsWithin W from = (next : Host) × (answer : Answer) × W (Changes next answer) × (limit_of from next ≡ None)

-- what was met of some intent that the command may have, and what was written for that
abbrev pub HasMet : (Intent → Type 0) → Option Generation → DiskState → DiskState → DepotState → SinkState → SinkState → Option Refusal → Option Generation → Type 0
HasMet W from old new depot k l refusal after =
    (intent : Intent) × W intent × Met intent from old new depot refusal after × WritesMet intent from old k l refusal

-- why a reply is one of a refused command, if it is
abbrev pub refused_by : Reply → Option Refusal
refused_by (Text text) = None
refused_by (File held) = None
refused_by (Refused refusal) = Some refusal

-- a home that is looked at for this file, which is brought, has another file than listed
pub record IsDamagedFor (from : Option Generation) (disk : DiskState) (depot : DepotState) (damage : Damage) (held : HeldFile) : Type 0 where
  pub brought : is_brought held.body ≡ true
  pub stamp : damage.listed ≡ held.stamp
  pub damaged : IsDamaged (stored_by (host_before from) disk) damage.listed (brought_told depot held.body) damage.home damage.found

-- what is said of a damage that was found while something wanted was done: of a change, it was found for the first file that got
-- no home; of a file that was shown, it is its own; a check reads each file; and else none is read
abbrev pub ReadsDamage : Intent → Option Generation → DiskState → DepotState → Damage → Type 0
ReadsDamage (Changes next answer) from disk depot damage = StopsChange from next disk depot (IsDamagedFor from disk depot damage)
ReadsDamage (Answers answer) from disk depot damage = ⊥
ReadsDamage Checks from disk depot damage = Unit {0}
ReadsDamage (Shows held) from disk depot damage = IsKeptAs held damage.home damage.listed
ReadsDamage (Refuses why) from disk depot damage = ⊥

-- and while it was looked for what is wanted: it is that of a file which the command reads for that
abbrev pub SeesDamage : Option Generation → Command → Damage → Type 0
SeesDamage None command damage = ⊥
SeesDamage (Some g) command damage = (held : HeldFile) × IsStepFile g.host command held × IsKeptAs held damage.home damage.listed

-- either of both
abbrev pub FindsDamage : Command → Option Generation → DiskState → DepotState → Damage → Type 0
FindsDamage command from disk depot damage =
    SeesDamage from command damage
    ⊎ ((intent : Intent) × Wants (seen_on from disk) depot.contents command intent × ReadsDamage intent from disk depot damage)

-- what a command that was carried out met, and the reply to that
abbrev pub AppliedSo : (Intent → Type 0) → Option Generation → DiskState → DiskState → DepotState → Applied → Type 0
AppliedSo W from old new depot applied =
    (intent : Intent) × W intent × Met intent from old new depot (refused_by applied.reply) applied.opened × IsReplyTo intent from applied.reply

-- `current` is as it was
abbrev pub KeepsCurrent : Told → Told → Type 0
KeepsCurrent d e = (e.places current_path).node ≡ (d.places current_path).node

-- where the command was refused, or not carried out for another reason than a fault of the disk, `current` is as it was
abbrev pub LeavesCurrent : Result Applied ApplyErr → Told → Told → Type 0
LeavesCurrent (Ok applied) d e = IfSome (refused_by applied.reply) (λ refusal. KeepsCurrent d e)
LeavesCurrent (Err (Fault DiskFault)) d e = Unit {0}
LeavesCurrent (Err (Fault DepotFault)) d e = KeepsCurrent d e
LeavesCurrent (Err (Fault OutOfMemory)) d e = KeepsCurrent d e
LeavesCurrent (Err (Fault (Damaged damage))) d e = KeepsCurrent d e
LeavesCurrent (Err Unfinished) d e = KeepsCurrent d e

-- what the command wants of what is seen
abbrev pub WantsOn : Option Generation → DiskState → Option Files → Command → Intent → Type 0
WantsOn from disk files command intent = Wants (seen_on from disk) files command intent
