-- What is written for what was met, whatever the store is.
use Rattle.std.proofs.Common.{◌≡◌, ℕ, List, Option, Some, None, Ok, refl, sym, subst}
use Rattle.std.specs.Io.KnownBytes.{Appends}
use Rattle.ext_io.specs.SinkState.{SinkState}
use Rattle.ext_depot.specs.Depot.{DepotState}
use Rattle.ext_disk.specs.Disk.{DiskState}
use Rattle.ext_disk.specs.Since.{Rests}
use Rattle.ext_host.specs.Held.{HeldFile}
use Rattle.ext_host.specs.Shelf as shelf
use Rattle.ext_host.specs.Shelf.{IsTold, missing, stored, untold}
use Rattle.ext_store_files.specs.HeldFiles.{IsListed, body_told}
use Rattle.ext_gen.specs.Opened.{Generation}
use Rattle.ext_cmd.specs.declared.refusal.Refusal.{Refusal}
use Rattle.ext_intents.specs.declared.intent.Intent.{Intent}
use Rattle.ext_intents.specs.declared.intent.Intent.TheVariants.{Answers, Changes, Checks, Refuses, Shows}
use Rattle.ext_top.specs.Applying.{IsShownReply}
use Rattle.ext_top.specs.Replying.{WritesFile, WritesMany, WritesReply}
use Rattle.ext_top.specs.Working.{AppliedSo, HasMet, IsReplyTo, Met, WritesAnswer, WritesHeld, WritesMet, refused_by}
use Rattle.ext_top.specs.declared.applied.Reply.{Reply}
use Rattle.ext_top.specs.declared.applied.Reply.TheVariants.{Text, File, Refused}
use Rattle.ext_top.proofs.PieceLemmas.{told_rests}
use Rattle.ext_top.proofs.WorkingLemmas.{met_then}

not_refused : (why : Refusal) → None ≡ Some why → ⊥
not_refused why same = cc

-- a text
text_answer : (from : Option Generation) (old new : DiskState) (depot : DepotState) (after : Option Generation) (text : List ℕ) (k l : SinkState) (intent : Intent) → Met intent from old new depot None after → IsReplyTo intent from (Text text)
    → Appends k.written l.written text → WritesAnswer intent from old k l
text_answer from old new depot after text k l (Changes next answer) met is appends = subst (Appends k.written l.written) is appends
text_answer from old new depot after text k l (Answers answer) met is appends = subst (Appends k.written l.written) is appends
text_answer None old new depot after text k l Checks met is appends = tt
text_answer (Some g) old new depot after text k l Checks met is appends = subst (Appends k.written l.written) is appends
text_answer from old new depot after text k l (Shows held) met is appends = absurd is
text_answer from old new depot after text k l (Refuses why) met is appends = absurd (not_refused why met.1)

-- the bytes of a file, which are those that are told
file_bytes : (disk : DiskState) (held : HeldFile) (k l : SinkState) (last : Option Refusal) (told : shelf.Told) → body_told disk held.body ≡ told → IsListed told held.stamp → WritesFile told held.stamp.size k l (Ok last) → WritesMany held.stamp.size k l
    → WritesHeld disk held k l
file_bytes disk held k l last untold is listed writes (bytes, size, written) = record { bytes = bytes; told = subst (λ t. IsTold t bytes) (sym is) tt; size = size; written = written }
file_bytes disk held k l last missing is listed writes many = absurd listed
file_bytes disk held k l last (stored bytes) is listed writes many =
    record { bytes = bytes; told = subst (λ t. IsTold t bytes) (sym is) refl; size = sym listed.size; written = writes bytes refl (sym listed.size) }

file_answer : (from : Option Generation) (old new : DiskState) (depot : DepotState) (after : Option Generation) (held : HeldFile) (k l : SinkState) (intent : Intent) → Met intent from old new depot None after → IsReplyTo intent from (File held)
    → WritesHeld old held k l → WritesAnswer intent from old k l
file_answer from old new depot after held k l (Changes next answer) met is writes = absurd is
file_answer from old new depot after held k l (Answers answer) met is writes = absurd is
file_answer None old new depot after held k l Checks met is writes = tt
file_answer (Some g) old new depot after held k l Checks met is writes = absurd is
file_answer from old new depot after held k l (Shows file) met is writes = subst (λ (h : HeldFile). WritesHeld old h k l) is writes
file_answer from old new depot after held k l (Refuses why) met is writes = absurd (not_refused why met.1)

reply_written : (from : Option Generation) (old mid : DiskState) (depot : DepotState) (after : Option Generation) (k l : SinkState) (last : Option Refusal) (intent : Intent) (reply : Reply) → Met intent from old mid depot (refused_by reply) after
    → IsReplyTo intent from reply → IsShownReply from old mid reply → WritesReply reply mid k l (Ok last) → WritesMet intent from old k l last
reply_written from old mid depot after k l last intent (Text text) met is shown writes =
    subst (λ r. WritesMet intent from old k l r) (sym writes.0) (text_answer from old mid depot after text k l intent met is writes.1)
reply_written from old mid depot after k l last intent (File held) met is shown writes =
    let bytes = file_bytes old held k l last (body_told old held.body) refl shown.3 (subst (λ t. WritesFile t held.stamp.size k l (Ok last)) (told_rests old mid held.body shown.2) writes.0) writes.2 in
    subst (λ r. WritesMet intent from old k l r) (sym writes.1) (file_answer from old mid depot after held k l intent met is bytes)
reply_written from old mid depot after k l last intent (Refused why) met is shown writes = subst (λ r. WritesMet intent from old k l r) (sym writes.0) writes.1

-- so a line writes what it met
pub written_met : (W : Intent → Type 0) (from : Option Generation) (old mid new : DiskState) (depot : DepotState) (opened : Option Generation) (reply : Reply) (last : Option Refusal) (k l : SinkState) → Rests mid new → last ≡ refused_by reply
    → AppliedSo W from old mid depot (record { opened = opened; reply = reply }) → IsShownReply from old mid reply → WritesReply reply mid k l (Ok last) → HasMet W from old new depot k l last opened
written_met W from old mid new depot opened reply last k l rests same (intent, is, met, replies) shown writes = (
  intent,
  is,
  subst (λ r. Met intent from old new depot r opened) (sym same) (met_then from old mid new depot (refused_by reply) opened rests.told intent met),
  reply_written from old mid depot opened k l last intent reply met replies shown writes,
)
