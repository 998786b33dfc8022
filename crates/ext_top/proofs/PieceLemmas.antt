-- One piece of a file: it is read, and then written.
use Rattle.std.proofs.Common.{◌≡◌, ◌≢◌, ◌⊎◌, ℕ, ◌+◌, ◌<◌, ◌≤◌, List, ◌++◌, length, drop, inl, inr, None, Result, Ok, Err, refl, sym, ap, ◌∙◌, subst, arith, append_assoc, length-append}
use Rattle.ext_text.specs.Causes.{Rose}
use Rattle.ext_io.specs.SinkState.{SinkState}
use Rattle.ext_disk.specs.Disk.{DiskState}
use Rattle.ext_disk.specs.Since.{Rests}
use Rattle.ext_tree.specs.declared.stamp.Stamp.{Stamp}
use Rattle.ext_host.specs.Held.{HeldFile}
use Rattle.ext_host.specs.Shelf as shelf
use Rattle.ext_host.specs.Shelf.{untold, missing, stored, IsFound}
use Rattle.ext_host.specs.declared.body.Body.{Body}
use Rattle.ext_host.specs.declared.body.Body.TheVariants.{Here, Kept, Depot}
use Rattle.ext_host.specs.declared.shelf.ShelfErr.{ShelfErr}
use Rattle.ext_host.specs.declared.shelf.ShelfErr.TheVariants as shelf_errors
use Rattle.ext_store_files.specs.HeldFiles.{EndsBy, IsNextPiece, PieceCause, body_told, told_at}
use Rattle.ext_store_files.specs.Names.{home_path}
use Rattle.ext_gen.specs.declared.bad_store.BadStore.TheVariants.{Broken, Damaged}
use Rattle.ext_top.specs.Replying.{FileCause, WritesBytes, WritesPiece, stop_of_shelf}
use Rattle.ext_top.specs.declared.stop.Stop.{Stop}
use Rattle.ext_top.specs.declared.stop.Stop.TheVariants.{WriteFault, DiskFault, DepotFault, OutOfMemory, BadStore, Unfinished}

-- a file that ends before its listed size is none of that size
ends_found : (listed : Stamp) (told : shelf.Told) (at : ℕ) → at < listed.size → EndsBy told at → IsFound listed told None
ends_found listed untold at below ends = tt
ends_found listed missing at below ends = tt
ends_found listed (stored bytes) at below ends = λ is. omega arith

pub piece_cause : (held : HeldFile) (k l : SinkState) (d e : DiskState) (at : ℕ) (error : ShelfErr) → at < held.stamp.size → PieceCause d.faults e.faults (body_told d held.body) held at error → FileCause held k l d e (stop_of_shelf error)
piece_cause held k l d e at shelf_errors.OutOfMemory below cause = tt
piece_cause held k l d e at shelf_errors.Fault below cause = cause
piece_cause held k l d e at (shelf_errors.Damaged damage) below cause = (
  cause.0,
  subst (IsFound damage.listed (body_told d held.body)) (sym cause.1)
      (ends_found damage.listed (body_told d held.body) at (subst (λ (stamp : Stamp). at < stamp.size) cause.0.stamp below) cause.2),
)

pub piece_unread : (held : HeldFile) (k : SinkState) (d : DiskState) (old new at : ℕ) (error : ShelfErr) → at < held.stamp.size → PieceCause old new (body_told d held.body) held at error
    → WritesPiece (body_told d held.body) held.stamp.size at k k (Err (stop_of_shelf error))
piece_unread held k d old new at shelf_errors.OutOfMemory below cause = λ bytes is long. refl
piece_unread held k d old new at shelf_errors.Fault below cause = λ bytes is long. refl
piece_unread held k d old new at (shelf_errors.Damaged damage) below cause = λ bytes is long.
    let ends : length bytes ≤ at = subst (λ t. EndsBy t at) is cause.2 in omega arith

pub piece_cut : (T : Type 0) (told : shelf.Told) (size at : ℕ) (piece : List ℕ) (k l : SinkState) (stop : Stop) → IsNextPiece told at piece → WritesBytes {T = T} piece k l (Err stop) → WritesPiece told size at k l (Err stop)
piece_cut T told size at piece k l WriteFault next writes = λ bytes is long.
    let (prefix, (rest, parts, some), appends) = writes.0 in
    let more = drop (at + length piece) bytes in
    let whole : drop at bytes ≡ piece ++ more = subst (λ t. IsNextPiece t at piece) is next in
    let longer = length-append rest more in
    (prefix, (rest ++ more, whole ∙ (ap (λ xs. xs ++ more) parts ∙ append_assoc prefix rest more), omega arith), appends)
piece_cut T told size at piece k l DiskFault next never = absurd never
piece_cut T told size at piece k l DepotFault next never = absurd never
piece_cut T told size at piece k l OutOfMemory next never = absurd never
piece_cut T told size at piece k l (BadStore why) next never = absurd never
piece_cut T told size at piece k l Unfinished next never = absurd never

pub piece_cut_cause : (T : Type 0) (held : HeldFile) (piece : List ℕ) (k l : SinkState) (d e : DiskState) (stop : Stop) → WritesBytes {T = T} piece k l (Err stop) → FileCause held k l d e stop
piece_cut_cause T held piece k l d e WriteFault writes = writes.1
piece_cut_cause T held piece k l d e DiskFault never = absurd never
piece_cut_cause T held piece k l d e DepotFault never = absurd never
piece_cut_cause T held piece k l d e OutOfMemory never = absurd never
piece_cut_cause T held piece k l d e (BadStore why) never = absurd never
piece_cut_cause T held piece k l d e Unfinished never = absurd never

pub piece_done : (told : shelf.Told) (size at count : ℕ) (piece : List ℕ) (k l : SinkState) → IsNextPiece told at piece → length piece ≡ count → WritesBytes {T = Unit {0}} piece k l (Ok tt) → WritesPiece told size at k l (Ok count)
piece_done told size at count piece k l next is_count writes = λ bytes is long.
    let whole : drop at bytes ≡ piece ++ drop (at + length piece) bytes = subst (λ t. IsNextPiece t at piece) is next in
    (piece, whole ∙ ap (λ n. piece ++ drop (at + n) bytes) is_count, is_count, writes)

-- what a disk tells of a file stays while it rests
pub told_rests : (d e : DiskState) (body : Body) → Rests d e → body_told e body ≡ body_told d body
told_rests d e (Here bytes) rests = refl
told_rests d e (Kept home) rests = ap (λ o. told_at o (home_path home.generation home.file)) rests.told
told_rests d e (Depot path) rests = refl

pub rests_then : (d e f : DiskState) → Rests d e → Rests e f → Rests d f
rests_then d e f one two = record { told = two.told ∙ one.told; count = omega (arith, one.count, two.count) }

pub piece_since : (d e : DiskState) (body : Body) (size at : ℕ) (k l : SinkState) (result : Result ℕ Stop) → Rests d e → WritesPiece (body_told e body) size at k l result → WritesPiece (body_told d body) size at k l result
piece_since d e body size at k l result rests writes = subst (λ t. WritesPiece t size at k l result) (told_rests d e body rests) writes

rose_from : (a b c : ℕ) → a ≤ b → Rose b c → Rose a c
rose_from a b c le (inl more) = inl (omega arith)
rose_from a b c le (inr most) = inr most

pub cause_from : (held : HeldFile) (j k l : SinkState) (d e f : DiskState) (stop : Stop) → j.faults ≤ k.faults → Rests d e → FileCause held k l e f stop → FileCause held j l d f stop
cause_from held j k l d e f WriteFault le rests cause = rose_from j.faults k.faults l.faults le cause
cause_from held j k l d e f DiskFault le rests cause = rose_from d.faults e.faults f.faults rests.count cause
cause_from held j k l d e f DepotFault le rests cause = cause
cause_from held j k l d e f OutOfMemory le rests cause = tt
cause_from held j k l d e f (BadStore (Broken line)) le rests cause = cause
cause_from held j k l d e f (BadStore (Damaged damage)) le rests cause = (cause.0, subst (λ t. IsFound damage.listed t damage.found) (told_rests d e held.body rests) cause.1)
cause_from held j k l d e f Unfinished le rests cause = cause

-- a file that is not told to be missing was not told so before, while the disk rests
pub stood_before : (d e : DiskState) (body : Body) (at : ℕ) → Rests d e → body_told e body ≢ missing → (at ≡ 0) ⊎ (body_told d body ≢ missing)
stood_before d e body at rests stands = inr (subst (λ t. t ≢ missing) (told_rests d e body rests) stands)
