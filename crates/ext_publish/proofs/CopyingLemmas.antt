-- A file of the store that is copied into the depot, piece by piece.
use Rattle.std.proofs.Common.{◌≡◌, ℕ, ◌+◌, ◌<◌, ◌≤◌, Bool, true, false, List, [], ◌++◌, length, Some, None, refl, sym, ap, ◌∙◌, subst, arith, length-append}
use Rattle.sha2.specs.Sha256.{sha256}
use Rattle.ext_text.specs.Causes.{Rose}
use Rattle.ext_text.specs.Path.{is_prefix}
use Rattle.ext_text.specs.declared.digest.Digest.{Digest}
use Rattle.ext_io.specs.Pieces.{IsPieceAt}
use Rattle.ext_tree.specs.declared.stamp.Stamp.{Stamp}
use Rattle.ext_disk.specs.Calls.{Does, append, make_file, sync_file}
use Rattle.ext_disk.specs.Disk.{DiskState}
use Rattle.ext_disk.specs.Since.{Rests}
use Rattle.ext_disk.proofs.ForCallers.{rests_then, spares_itself, spares_then}
use Rattle.ext_host.specs.Held.{HeldFile}
use Rattle.ext_host.specs.Shelf as shelf
use Rattle.ext_host.specs.Shelf.{untold, missing, stored, IsTold, IsFound, IsKeptAs}
use Rattle.ext_host.specs.declared.body.Body.TheVariants as bodies
use Rattle.ext_host.specs.declared.home.Home.{Home}
use Rattle.ext_host.specs.declared.shelf.ShelfErr.{ShelfErr}
use Rattle.ext_host.specs.declared.shelf.ShelfErr.TheVariants as shelf_errors
use Rattle.ext_store_files.specs.Copying.{BeginsTold}
use Rattle.ext_store_files.specs.HeldFiles.{EndsBy, IsNextPiece, PieceCause, body_told, told_at}
use Rattle.ext_store_files.specs.Writing.{Appends, Holds, IsFileWith, Works, WorksTold, is_at, nowhere}
use Rattle.ext_store_files.proofs.ForCallers.{holds_then, rose_since, told_itself, told_map, told_then, begins_more, whole_read, append_call_works, append_more, file_made, file_synced, make_file_works, sync_file_call_works, synced_written}
use Rattle.ext_gen.specs.declared.bad_store.BadStore.TheVariants as bad_stores
use Rattle.ext_publish.specs.Copying.{OnlyChangesAt, HeldCause, HasListedSize, ReadHomeCause, IsCopyOf, IsHashed, KeptDiffers, WorksAt}
use Rattle.ext_publish.specs.Stopping.{pub_stop_of_shelf}
use Rattle.ext_publish.specs.declared.stop.Stop.{Stop}
use Rattle.ext_publish.specs.declared.stop.Stop.TheVariants as stops

-- work at a path: nothing, one stretch after another, and what calls are
pub works_at_itself : (path : List (List ℕ)) (s : DiskState) → WorksAt path s s
works_at_itself path s = record { spares = spares_itself (is_prefix path) s; told = told_itself (OnlyChangesAt (is_at path)) (λ d p out. refl) s.told }

pub works_at_then : (path : List (List ℕ)) (r s t : DiskState) → WorksAt path r s → WorksAt path s t → WorksAt path r t
works_at_then path r s t one two = record {
  spares = spares_then (is_prefix path) r s t one.spares two.spares;
  told = told_then (OnlyChangesAt (is_at path)) (OnlyChangesAt (is_at path)) (OnlyChangesAt (is_at path)) (λ c d e x y p out. y p out ∙ x p out) r.told s.told t.told one.told two.told;
}

pub works_at_of : (path : List (List ℕ)) (n : ℕ) (old new : DiskState) → Works (is_prefix path) (is_at path) n old new → WorksAt path old new
works_at_of path n old new works = record { spares = works.spares; told = told_map (WorksTold (is_at path) n) (OnlyChangesAt (is_at path)) (λ d e told. told.now) old.told new.told works.told }

pub works_at_synced : (path : List (List ℕ)) (old new : DiskState) → Works nowhere nowhere 0 old new → WorksAt path old new
works_at_synced path old new works = record {
  spares = Rattle.ext_disk.proofs.ForCallers.spares_wider nowhere (is_prefix path) old new (λ p out. refl) works.spares;
  told = told_map (WorksTold nowhere 0) (OnlyChangesAt (is_at path)) (λ d e told p out. told.now p refl) old.told new.told works.told;
}

pub make_works_at : (path : List (List ℕ)) (done : Bool) (old new : DiskState) → Does (make_file path) old new done → WorksAt path old new
make_works_at path done old new does = works_at_of path 0 old new (make_file_works path done old new does)

pub sync_works_at : (path : List (List ℕ)) (done : Bool) (old new : DiskState) → Does (sync_file path) old new done → WorksAt path old new
sync_works_at path done old new does = works_at_synced path old new (sync_file_call_works path done old new does)

-- bytes that the store tells are being appended, and hashed
pub record IsCopying (told : shelf.Told) (path : List (List ℕ)) (before store old new : DiskState) (size : ℕ) (holds : List ℕ → Type 0) (at : ℕ) : Type 0 where
  pub rests : Rests before store
  pub within : at ≤ size
  pub bytes : List ℕ
  pub long : length bytes ≡ at
  pub fed : holds bytes
  pub begins : BeginsTold told bytes
  pub works : WorksAt path old new
  pub file : Holds (IsFileWith path bytes) new

begins_sized : (told : shelf.Told) (stamp : Stamp) → HasListedSize told stamp → BeginsTold told []
begins_sized untold stamp sized = tt
begins_sized missing stamp sized = sized
begins_sized (stored bytes) stamp sized = refl

pub copies_nothing : (told : shelf.Told) (path : List (List ℕ)) (stamp : Stamp) (store out : DiskState) (holds : List ℕ → Type 0) → Rests store store → HasListedSize told stamp → holds [] → Holds (IsFileWith path []) out
    → IsCopying told path store store out out stamp.size holds 0
copies_nothing told path stamp store out holds rests sized fed empty = record {
  rests = rests;
  within = omega arith;
  bytes = [];
  long = refl;
  fed = fed;
  begins = begins_sized told stamp sized;
  works = works_at_itself path out;
  file = empty;
}

begins_next : (told : shelf.Told) (bytes piece : List ℕ) (at : ℕ) → length bytes ≡ at → 0 < length piece → BeginsTold told bytes → IsNextPiece told at piece → BeginsTold told (bytes ++ piece)
begins_next untold bytes piece at long some begins next = tt
begins_next missing bytes piece at long some begins next = next
begins_next (stored all) bytes piece at long some begins next =
    begins_more all bytes piece begins (subst (λ n. IsPieceAt all n piece) (sym long) (record { moved = next; end = λ none. absurd (omega (arith, some, none)) }))

pub copies_more : (told now_told : shelf.Told) (path : List (List ℕ)) (before mid store old amid new : DiskState) (size : ℕ) (holds after : List ℕ → Type 0) (at n : ℕ) (piece : List ℕ) → IsCopying told path before mid old amid size holds at
    → now_told ≡ told → Rests mid store → 0 < n → length piece ≡ n → at + n ≤ size → ((m : List ℕ) → holds m → after (m ++ piece)) → IsNextPiece now_told at piece → Does (append path piece) amid new true
    → IsCopying told path before store old new size after (at + n)
copies_more told now_told path before mid store old amid new size holds after at n piece has same rests some long fits feeds next does =
    let more : 0 < length piece = omega (arith, some, long) in
    record {
      rests = rests_then before mid store has.rests rests;
      within = fits;
      bytes = has.bytes ++ piece;
      long = omega (arith, length-append has.bytes piece, has.long, long);
      fed = feeds has.bytes has.fed;
      begins = begins_next told has.bytes piece at has.long more has.begins (subst (λ t. IsNextPiece t at piece) same next);
      works = works_at_then path old amid new has.works (works_at_of path (length piece) amid new (append_call_works path piece true amid new more does));
      file = holds_then (IsFileWith path has.bytes) (IsFileWith path (has.bytes ++ piece)) (Appends path piece) (λ d e there gives. gives has.bytes there) amid.told new.told has.file (append_more path piece amid.told new.told does.told);
    }

-- an append that failed
pub append_failed : (path : List (List ℕ)) (piece : List ℕ) (old amid new : DiskState) → WorksAt path old amid → 0 < length piece → Does (append path piece) amid new false → WorksAt path old new
append_failed path piece old amid new works some does = works_at_then path old amid new works (works_at_of path (length piece) amid new (append_call_works path piece false amid new some does))

told_whole : (told : shelf.Told) (stamp : Stamp) (bytes : List ℕ) → HasListedSize told stamp → length bytes ≡ stamp.size → BeginsTold told bytes → IsTold told bytes
told_whole untold stamp bytes sized long begins = tt
told_whole missing stamp bytes sized long begins = begins
told_whole (stored all) stamp bytes sized long begins = sym (whole_read all bytes begins (omega (arith, sized, long)))

pub hashed_all : (told : shelf.Told) (path : List (List ℕ)) (stamp : Stamp) (before store old new : DiskState) (holds : List ℕ → Type 0) (at : ℕ) (digest : Digest) → IsCopying told path before store old new stamp.size holds at → HasListedSize told stamp
    → stamp.size ≤ at → ((m : List ℕ) → holds m → digest.0 ≡ sha256 m) → IsHashed told stamp.size path new digest
hashed_all told path stamp before store old new holds at digest has sized end gives =
    let long : length has.bytes ≡ stamp.size = omega (arith, has.long, has.within, end) in
    (has.bytes, told_whole told stamp has.bytes sized long has.begins, long, gives has.bytes has.fed, has.file)

-- the file is made
pub made_empty : (path : List (List ℕ)) (old new : DiskState) → Does (make_file path) old new true → Holds (IsFileWith path []) new
made_empty path old new does = file_made path old.told new.told does.told

-- its bytes are synced, where they have the listed stamp
pub copied_all : (told : shelf.Told) (path : List (List ℕ)) (stamp : Stamp) (digest : Digest) (old new : DiskState) → IsHashed told stamp.size path old digest → digest ≡ stamp.digest → Does (sync_file path) old new true → IsCopyOf told stamp path new
copied_all told path stamp digest old new hashed same does = (
  hashed.0,
  hashed.1,
  record { size = sym hashed.2; digest = ap (λ (d : Digest). d.0) (sym same) ∙ hashed.3 },
  synced_written path hashed.0 old new hashed.4 (sync_file_call_works path true old new does) (file_synced path old.told new.told does.told),
)

-- causes
pub copy_home : (held : HeldFile) (store after old new : DiskState) (stop : Stop) → ReadHomeCause held store after stop → HeldCause held store after old new stop
copy_home held store after old new stops.OutOfMemory cause = tt
copy_home held store after old new (stops.Refused refusal) cause = cause
copy_home held store after old new stops.DiskFault cause = cause
copy_home held store after old new stops.OutFault cause = absurd cause
copy_home held store after old new (stops.BadStore (bad_stores.Broken line)) cause = cause
copy_home held store after old new (stops.BadStore (bad_stores.Damaged damage)) cause = cause
copy_home held store after old new stops.Unfinished cause = cause

pub copy_out : (held : HeldFile) (store after old mid new : DiskState) (stop : Stop) → old.faults ≤ mid.faults → (stop ≡ stops.OutFault) × Rose mid.faults new.faults → HeldCause held store after old new stop
copy_out held store after old mid new stop count cause = subst (HeldCause held store after old new) (sym cause.0) (rose_since old.faults mid.faults new.faults count cause.1)

ends_found : (told : shelf.Told) (listed : Stamp) (at : ℕ) → at < listed.size → EndsBy told at → IsFound listed told None
ends_found untold listed at place ends = tt
ends_found missing listed at place ends = tt
ends_found (stored bytes) listed at place ends = λ same. omega (arith, same, place, ends)

-- a piece was not read
pub home_piece : (held : HeldFile) (store after : DiskState) (at : ℕ) (e : ShelfErr) → at < held.stamp.size → PieceCause store.faults after.faults (body_told store held.body) held at e → ReadHomeCause held store after (pub_stop_of_shelf e)
home_piece held store after at shelf_errors.OutOfMemory place cause = tt
home_piece held store after at shelf_errors.Fault place cause = cause
home_piece held store after at (shelf_errors.Damaged damage) place cause = (
  cause.0,
  subst (IsFound damage.listed (body_told store held.body)) (sym cause.1)
      (ends_found (body_told store held.body) damage.listed at (subst (λ (s : Stamp). at < s.size) cause.0.stamp place) cause.2),
)

-- what a store tells that rests
pub told_rests : (body : Rattle.ext_host.specs.declared.body.Body.Body) (store mid : DiskState) → Rests store mid → body_told mid body ≡ body_told store body
told_rests (bodies.Here bytes) store mid rests = refl
told_rests (bodies.Kept home) store mid rests = ap (λ o. told_at o (Rattle.ext_store_files.specs.Names.home_path home.generation home.file)) rests.told
told_rests (bodies.Depot path) store mid rests = refl

pub home_later : (held : HeldFile) (store mid after : DiskState) (stop : Stop) → Rests store mid → ReadHomeCause held mid after stop → ReadHomeCause held store after stop
home_later held store mid after stops.OutOfMemory rests cause = tt
home_later held store mid after (stops.Refused refusal) rests cause = cause
home_later held store mid after stops.DiskFault rests cause = rose_since store.faults mid.faults after.faults rests.count cause
home_later held store mid after stops.OutFault rests cause = cause
home_later held store mid after (stops.BadStore (bad_stores.Broken line)) rests cause = cause
home_later held store mid after (stops.BadStore (bad_stores.Damaged damage)) rests cause = (cause.0, subst (λ t. IsFound damage.listed t damage.found) (told_rests held.body store mid rests) cause.1)
home_later held store mid after stops.Unfinished rests cause = cause

-- a kept file of another digest
pub home_differs : (told : shelf.Told) (held : HeldFile) (home : Home) (digest : Digest) (path : List (List ℕ)) (store after out : DiskState) (stop : Stop) → held.body ≡ bodies.Kept home → told ≡ body_told store held.body → IsHashed told held.stamp.size path out digest
    → KeptDiffers held home digest stop → ReadHomeCause held store after stop
home_differs told held home digest path store after out stop body same hashed differs =
    subst (ReadHomeCause held store after) (sym differs.1)
    (record { body = body; stamp = refl }, subst (λ t. IsFound held.stamp t (Some (record { size = held.stamp.size; digest = digest }))) same (found told hashed))
  where
    found : (told : shelf.Told) → IsHashed told held.stamp.size path out digest → IsFound held.stamp told (Some (record { size = held.stamp.size; digest = digest }))
    found untold hashed = (refl, λ same. differs.0 (ap (λ (s : Stamp). s.digest) same))
    found missing hashed = absurd hashed.1
    found (stored bytes) hashed = (
      refl,
      λ same. differs.0 (ap (λ (s : Stamp). s.digest) same),
      record { size = sym hashed.2 ∙ ap length hashed.1; digest = hashed.3 ∙ ap sha256 hashed.1 },
    )
