-- Writing a reply: what the sink has then, and which fault may be blamed.
use Rattle.std.specs.Prelude.{◌≡◌, ℕ, ◌+◌, List, ◌++◌, length, drop, Option, Some, None, IfOk, Result, Ok, Err}
use Rattle.std.specs.Io.KnownBytes.{Appends}
use Rattle.ext_lines.specs.Prefix.{IsPrefix}
use Rattle.ext_text.specs.Causes.{Rose}
use Rattle.ext_io.specs.SinkState.{SinkState}
use Rattle.ext_io.specs.Whole.{AppendsProperPrefix}
use Rattle.ext_disk.specs.Disk.{DiskState}
use Rattle.ext_host.specs.Held.{HeldFile}
use Rattle.ext_host.specs.Shelf as shelf
use Rattle.ext_host.specs.Shelf.{stored, IsFound, IsKeptAs}
use Rattle.ext_host.specs.declared.shelf.ShelfErr.{ShelfErr}
use Rattle.ext_host.specs.declared.damage.Damage.{Damage}
use Rattle.ext_store_files.specs.HeldFiles.{body_told}
use Rattle.ext_store_files.specs.Fault.{fault_of_shelf}
use Rattle.ext_gen.specs.declared.bad_store.BadStore.TheVariants.{Broken, Damaged}
use Rattle.ext_cmd.specs.Refusals.{refusal_line}
use Rattle.ext_cmd.specs.declared.refusal.Refusal.{Refusal}
use Rattle.ext_top.specs.Exits.{usage_line}
use Rattle.ext_top.specs.declared.applied.Reply.{Reply}
use Rattle.ext_top.specs.declared.applied.Reply.TheVariants.{Text, File, Refused}
use Rattle.ext_top.specs.declared.stop.Stop.{Stop}
use Rattle.ext_top.specs.declared.stop.Stop.TheVariants.{WriteFault, DiskFault, DepotFault, OutOfMemory, BadStore, Unfinished}
use Rattle.ext_top.specs.Stop.{stop_of_fault}

-- why a file is not written
abbrev pub stop_of_shelf : ShelfErr → Stop
stop_of_shelf e = stop_of_fault (fault_of_shelf e)

-- all of them were written, or a proper prefix was, and the sink failed
abbrev pub WritesBytes : {T : Type 0} → List ℕ → SinkState → SinkState → Result T Stop → Type 0
WritesBytes bytes k l (Ok done) = Appends k.written l.written bytes
WritesBytes bytes k l (Err WriteFault) = AppendsProperPrefix k l bytes × Rose k.faults l.faults
WritesBytes bytes k l (Err DiskFault) = ⊥
WritesBytes bytes k l (Err DepotFault) = ⊥
WritesBytes bytes k l (Err OutOfMemory) = ⊥
WritesBytes bytes k l (Err (BadStore why)) = ⊥
WritesBytes bytes k l (Err Unfinished) = ⊥

-- a prefix was written, which may be all of them
abbrev pub WritesPrefix : SinkState → SinkState → List ℕ → Type 0
WritesPrefix k l bytes = (prefix : List ℕ) × IsPrefix prefix bytes × Appends k.written l.written prefix

-- all of them were written; a proper prefix, where the sink failed; or a prefix, where the disk did, or there was no memory
abbrev pub WritesPartly : {T : Type 0} → List ℕ → SinkState → SinkState → Result T Stop → Type 0
WritesPartly bytes k l (Ok done) = Appends k.written l.written bytes
WritesPartly bytes k l (Err WriteFault) = AppendsProperPrefix k l bytes
WritesPartly bytes k l (Err DiskFault) = WritesPrefix k l bytes
WritesPartly bytes k l (Err DepotFault) = ⊥
WritesPartly bytes k l (Err OutOfMemory) = WritesPrefix k l bytes
WritesPartly bytes k l (Err (BadStore why)) = ⊥
WritesPartly bytes k l (Err Unfinished) = ⊥

-- so many bytes were written
abbrev pub WritesMany : ℕ → SinkState → SinkState → Type 0
WritesMany size k l = (bytes : List ℕ) × (length bytes ≡ size) × Appends k.written l.written bytes

-- so it is where a file of the listed size stands there
abbrev pub WritesFile : {T : Type 0} → shelf.Told → ℕ → SinkState → SinkState → Result T Stop → Type 0
WritesFile told size k l result = (bytes : List ℕ) → told ≡ stored bytes → length bytes ≡ size → WritesPartly bytes k l result

-- the next so many bytes were written; or a proper prefix of what is left, where the sink failed; or nothing
abbrev pub WritesNext : List ℕ → ℕ → SinkState → SinkState → Result ℕ Stop → Type 0
WritesNext bytes at k l (Ok count) =
    (piece : List ℕ) × (drop at bytes ≡ piece ++ drop (at + count) bytes) × (length piece ≡ count) × Appends k.written l.written piece
WritesNext bytes at k l (Err WriteFault) = AppendsProperPrefix k l (drop at bytes)
WritesNext bytes at k l (Err DiskFault) = l ≡ k
WritesNext bytes at k l (Err DepotFault) = ⊥
WritesNext bytes at k l (Err OutOfMemory) = l ≡ k
WritesNext bytes at k l (Err (BadStore why)) = ⊥
WritesNext bytes at k l (Err Unfinished) = ⊥

-- what one piece of a file writes, where a file of the listed size stands there
abbrev pub WritesPiece : shelf.Told → ℕ → ℕ → SinkState → SinkState → Result ℕ Stop → Type 0
WritesPiece told size at k l result = (bytes : List ℕ) → told ≡ stored bytes → length bytes ≡ size → WritesNext bytes at k l result

-- a text, which is no refusal's line
abbrev pub WritesText : List ℕ → SinkState → SinkState → Result (Option Refusal) Stop → Type 0
WritesText text k l (Ok last) = (last ≡ None) × Appends k.written l.written text
WritesText text k l (Err WriteFault) = AppendsProperPrefix k l text
WritesText text k l (Err DiskFault) = ⊥
WritesText text k l (Err DepotFault) = ⊥
WritesText text k l (Err OutOfMemory) = ⊥
WritesText text k l (Err (BadStore why)) = ⊥
WritesText text k l (Err Unfinished) = ⊥

-- the line of a refusal; where there was no memory for it, nothing was written
abbrev pub WritesRefusal : Refusal → SinkState → SinkState → Result (Option Refusal) Stop → Type 0
WritesRefusal refusal k l (Ok last) = (last ≡ Some refusal) × Appends k.written l.written (refusal_line refusal)
WritesRefusal refusal k l (Err WriteFault) = AppendsProperPrefix k l (refusal_line refusal)
WritesRefusal refusal k l (Err DiskFault) = ⊥
WritesRefusal refusal k l (Err DepotFault) = ⊥
WritesRefusal refusal k l (Err OutOfMemory) = l ≡ k
WritesRefusal refusal k l (Err (BadStore why)) = ⊥
WritesRefusal refusal k l (Err Unfinished) = ⊥

-- what writing a reply leaves; of a file that isn't told as many bytes are written as are listed
abbrev pub WritesReply : Reply → DiskState → SinkState → SinkState → Result (Option Refusal) Stop → Type 0
WritesReply (Text text) disk k l result = WritesText text k l result
WritesReply (File held) disk k l result =
    WritesFile (body_told disk held.body) held.stamp.size k l result × IfOk result (λ last. last ≡ None)
    × IfOk result (λ last. WritesMany held.stamp.size k l)
WritesReply (Refused refusal) disk k l result = WritesRefusal refusal k l result

-- the file is kept at the home, and what stands there is too short
abbrev pub IsHeldDamage : DiskState → HeldFile → Damage → Type 0
IsHeldDamage disk held damage = IsKeptAs held damage.home damage.listed × IsFound damage.listed (body_told disk held.body) damage.found

-- the reply to words outside the grammar; where there was no memory for it, nothing was written
abbrev pub WritesUsage : {T : Type 0} → ℕ → SinkState → SinkState → Result T Stop → Type 0
WritesUsage place k l (Ok done) = Appends k.written l.written (usage_line place)
WritesUsage place k l (Err WriteFault) = AppendsProperPrefix k l (usage_line place) × Rose k.faults l.faults
WritesUsage place k l (Err DiskFault) = ⊥
WritesUsage place k l (Err DepotFault) = ⊥
WritesUsage place k l (Err OutOfMemory) = l ≡ k
WritesUsage place k l (Err (BadStore why)) = ⊥
WritesUsage place k l (Err Unfinished) = ⊥

-- which fault may be blamed for a file
abbrev pub FileCause : HeldFile → SinkState → SinkState → DiskState → DiskState → Stop → Type 0
FileCause held k l d e WriteFault = Rose k.faults l.faults
FileCause held k l d e DiskFault = Rose d.faults e.faults
FileCause held k l d e DepotFault = ⊥
FileCause held k l d e OutOfMemory = Unit {0}
FileCause held k l d e (BadStore (Broken line)) = ⊥
FileCause held k l d e (BadStore (Damaged damage)) = IsHeldDamage d held damage
FileCause held k l d e Unfinished = ⊥

-- which fault may be blamed for a text
abbrev pub TextCause : SinkState → SinkState → Stop → Type 0
TextCause k l WriteFault = Rose k.faults l.faults
TextCause k l DiskFault = ⊥
TextCause k l DepotFault = ⊥
TextCause k l OutOfMemory = Unit {0}
TextCause k l (BadStore why) = ⊥
TextCause k l Unfinished = ⊥

-- which fault may be blamed for a reply
abbrev pub ReplyCause : Reply → SinkState → SinkState → DiskState → DiskState → Stop → Type 0
ReplyCause (Text text) k l d e stop = TextCause k l stop
ReplyCause (File held) k l d e stop = FileCause held k l d e stop
ReplyCause (Refused refusal) k l d e stop = TextCause k l stop
