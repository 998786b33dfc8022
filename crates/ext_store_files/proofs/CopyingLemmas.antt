-- A file of the depot that is copied into the store, piece by piece.
use Rattle.std.proofs.Common.{◌≡◌, ◌⊎◌, ℕ, ◌+◌, ◌<◌, ◌≤◌, Bool, true, false, eqb, ◌&&◌, List, [], ◌∷◌, ◌++◌, length, take, drop, Option, Some, None, IfSome, refl, sym, ap, ◌∙◌, subst, inl, inr, arith, length-append, length-take, ◌-◌}
use Rattle.std.specs.Prelude.{IsSome}
use Rattle.std.proofs.lemmas.Bool.{false≢true, cases_lt, and_parts, eqb-true}
use Rattle.std.specs.Cmp.Lexicographic.{pointwise}
use Rattle.std.proofs.lemmas.List.{append-nil, take_all}
use Rattle.std.proofs.Math.Seq.{take-append_seam}
use Rattle.ext_io.specs.Device.{IsReadAt}
use Rattle.ext_text.specs.Causes.{Rose}
use Rattle.ext_text.specs.Path.{is_prefix}
use Rattle.ext_tree.specs.declared.stamp.Stamp.{Stamp}
use Rattle.ext_disk.specs.Disk.{Told, DiskState, BothTold, is_no_folder}
use Rattle.ext_disk.specs.Calls.{IsFree}
use Rattle.ext_depot.specs.Depot.{DepotState, Files, IsKept}
use Rattle.ext_host.specs.Held.{IsStampOf}
use Rattle.ext_host.specs.Shelf as shelf
use Rattle.ext_host.specs.Shelf.{untold, missing, stored, IsTold}
use Rattle.ext_store_files.specs.declared.errors.CopyErr.{CopyErr}
use Rattle.ext_store_files.specs.declared.errors.CopyErr.TheVariants.{OutOfMemory, DiskFault, DepotFault, NotInDepot, Mismatch}
use Rattle.ext_io.specs.Pieces.{IsPieceAt}
use Rattle.ext_store_files.specs.Appended.{Raises}
use Rattle.ext_store_files.specs.Writing.{is_at, nowhere, Works, IsFileWith, Holds, Appends}
use Rattle.ext_store_files.specs.Copying.{bytes_told, contents_told, depot_told, IsReadUpTo, IsCopied, IsFed, CopyKeeps, CopyCause, FeedCause, IsPieceTold, IsThere, ReadDepotCause, BeginsTold}
use Rattle.ext_store_files.proofs.ReadingLemmas.{begins_more, whole_read}
use Rattle.ext_store_files.proofs.HashingLemmas.{piece_read}
use Rattle.ext_store_files.proofs.WritingLemmas.{HasAppended, appended_no_folder, appended_nothing, appended_within, appended_then, raises_after, raises_before, works_itself, works_then, works_wider, holds_map, synced_written, still_no_folder, and_synced}

-- a count that rose lately rose since an earlier time
pub rose_since : (before amid after : ℕ) → before ≤ amid → Rose amid after → Rose before after
rose_since before amid after no_less (inl more) = inl (omega arith)
rose_since before amid after no_less (inr last) = inr last

-- a depot is unchanged where nothing is called
pub kept_itself : (s : DepotState) → IsKept s s
kept_itself s = record { contents = refl; count = omega arith }

-- and over one stretch after another
pub kept_then : (r s t : DepotState) → IsKept r s → IsKept s t → IsKept r t
kept_then r s t one two = let first = one.count in let second = two.count in record { contents = two.contents ∙ one.contents; count = omega arith }

-- an unchanged depot tells the same of each path
pub kept_told : (s t : DepotState) (path : List (List ℕ)) → IsKept s t → depot_told t path ≡ depot_told s path
kept_told s t path kept = ap (λ c. contents_told c path) kept.contents

-- and has the same files
pub kept_there : (s t : DepotState) (path : List (List ℕ)) → IsKept s t → IsThere s path → IsThere t path
kept_there s t path kept there = subst (λ c. IfSome c (λ files. IsSome (files path))) (sym kept.contents) there

piece_of : (told : Option (List ℕ)) (at : ℕ) (buf : List ℕ) (count : ℕ) → IsSome told → length (take count buf) ≡ count → IfSome told (λ bytes. IsReadAt bytes at buf count) → IsPieceTold (bytes_told told) at (take count buf)
piece_of None at buf count there long read = absurd (false≢true there)
piece_of (Some bytes) at buf count there long read = piece_read bytes at buf count long read

pub read_piece : (contents : Option Files) (path : List (List ℕ)) (at : ℕ) (buf : List ℕ) (count : ℕ) → IfSome contents (λ files. IsSome (files path)) → length (take count buf) ≡ count
    → IfSome contents (λ files. IfSome (files path) (λ bytes. IsReadAt bytes at buf count)) → IsPieceTold (contents_told contents path) at (take count buf)
read_piece None path at buf count there long read = tt
read_piece (Some files) path at buf count there long read = piece_of (files path) at buf count there long read

begins_bytes : (told : Option (List ℕ)) → IsSome told → BeginsTold (bytes_told told) []
begins_bytes None there = absurd (false≢true there)
begins_bytes (Some bytes) there = refl

pub begins_nothing : (contents : Option Files) (path : List (List ℕ)) → IfSome contents (λ files. IsSome (files path)) → BeginsTold (contents_told contents path) []
begins_nothing None path there = tt
begins_nothing (Some files) path there = begins_bytes (files path) there

pub begins_then : (told : shelf.Told) (bytes piece : List ℕ) (at : ℕ) → length bytes ≡ at → BeginsTold told bytes → IsPieceTold told at piece → BeginsTold told (bytes ++ piece)
begins_then untold bytes piece at long begins next = tt
begins_then missing bytes piece at long begins next = begins
begins_then (stored all) bytes piece at long begins next = begins_more all bytes piece begins (subst (λ n. IsPieceAt all n piece) (sym long) next)

no_piece : (piece : List ℕ) → length piece ≡ 0 → piece ≡ []
no_piece [] none = refl
no_piece (b ∷ piece) none = absurd (omega (arith, none))

-- what was read is all that there is, or one byte more than so many
pub read_up_to : (told : shelf.Told) (size at n : ℕ) (bytes piece : List ℕ) → length bytes ≡ at → length piece ≡ n → at ≤ size → at + n ≤ size + 1 → (n ≡ 0) ⊎ (size < at + n)
    → BeginsTold told bytes → IsPieceTold told at piece → IsReadUpTo told size (bytes ++ piece)
read_up_to untold size at n bytes piece long longer within most end begins next = tt
read_up_to missing size at n bytes piece long longer within most end begins next = begins
read_up_to (stored all) size at n bytes piece long longer within most (inl none) begins next =
    let ends : length all ≤ at = next.end (longer ∙ none) in
    let whole : all ≡ bytes = whole_read all bytes begins (omega arith) in
    ap (λ (l : List ℕ). bytes ++ l) (no_piece piece (longer ∙ none)) ∙ append-nil bytes ∙ sym whole ∙ sym (take_all (size + 1) all (omega arith))
read_up_to (stored all) size at n bytes piece long longer within most (inr past) begins next =
    let full : length (bytes ++ piece) ≡ size + 1 = omega (arith, length-append bytes piece) in
    let split : all ≡ (bytes ++ piece) ++ drop (length (bytes ++ piece)) all = begins_then (stored all) bytes piece at long begins next in
    sym (ap (λ k. take k all) (sym full) ∙ ap (take (length (bytes ++ piece))) split ∙ take-append_seam (bytes ++ piece) (drop (length (bytes ++ piece)) all))

-- these bytes were read, fed to a hasher of which it is said what it holds, and appended
pub record Feeding (told : shelf.Told) (path : List (List ℕ)) (old new : DiskState) (before after : DepotState) (holds : List ℕ → Type 0) (size at : ℕ) : Type 0 where
  pub bytes : List ℕ
  pub long : length bytes ≡ at
  pub within : at ≤ size
  pub fed : holds bytes
  pub begins : BeginsTold told bytes
  pub appended : HasAppended path old new bytes
  pub kept : IsKept before after

pub feeds_nothing : (from path : List (List ℕ)) (s : DiskState) (d : DepotState) (holds : List ℕ → Type 0) (size : ℕ) → IsThere d from → Holds (IsFileWith path []) s → holds []
    → Feeding (depot_told d from) path s s d d holds size 0
feeds_nothing from path s d holds size there empty fed = record {
  bytes = [];
  long = refl;
  within = omega arith;
  fed = fed;
  begins = begins_nothing d.contents from there;
  appended = appended_nothing path s empty;
  kept = kept_itself d;
}

pub feeds_more : (from path : List (List ℕ)) (old mid new : DiskState) (before amid after : DepotState) (held holds : List ℕ → Type 0) (size at n : ℕ) (piece : List ℕ)
    → Feeding (depot_told before from) path old mid before amid held size at → IsKept amid after → length piece ≡ n → at + n ≤ size → ((m : List ℕ) → held m → holds (m ++ piece))
    → IsPieceTold (depot_told amid from) at piece → Works (is_prefix path) (is_at path) (length piece) mid new → BothTold (Appends path piece) mid.told new.told → Raises (length piece) mid new
    → Feeding (depot_told before from) path old new before after holds size (at + n)
feeds_more from path old mid new before amid after held holds size at n piece has kept long fits feeds next works more raises = record {
  bytes = has.bytes ++ piece;
  long = omega (arith, length-append has.bytes piece, has.long);
  within = fits;
  fed = feeds has.bytes has.fed;
  begins = begins_then (depot_told before from) has.bytes piece at has.long has.begins (subst (λ t. IsPieceTold t at piece) (kept_told before amid from has.kept) next);
  appended = appended_then path old mid new has.bytes piece (has.bytes ++ piece) refl has.appended works more raises;
  kept = kept_then before amid after has.kept kept;
}

same_bytes : (path : List (List ℕ)) (s : DiskState) (bytes piece : List ℕ) → piece ≡ [] → Holds (IsFileWith path bytes) s → Holds (IsFileWith path (bytes ++ piece)) s
same_bytes path s bytes piece none is = subst (λ l. Holds (IsFileWith path l) s) (sym (ap (λ (l : List ℕ). bytes ++ l) none ∙ append-nil bytes)) is

none_of : (size at n : ℕ) → (n ≡ 0) ⊎ (size < at + n) → at + n ≤ size → n ≡ 0
none_of size at n (inl none) fits = none
none_of size at n (inr past) fits = absurd (omega arith)

-- nothing more is read
pub feeds_end : (from path : List (List ℕ)) (old mid : DiskState) (before amid : DepotState) (held holds : List ℕ → Type 0) (size at n : ℕ) (piece : List ℕ) (found : Stamp)
    → Feeding (depot_told before from) path old mid before amid held size at → length piece ≡ n → at + n ≤ size + 1 → (n ≡ 0) ⊎ (size < at + n)
    → ((m : List ℕ) → held m → holds (m ++ piece)) → IsPieceTold (depot_told amid from) at piece → ((m : List ℕ) → holds m → length m ≡ at + n → IsStampOf m found)
    → IsFed (depot_told before from) size path old mid found
feeds_end from path old mid before amid held holds size at n piece found has long most end feeds next stamps =
    let full : length (has.bytes ++ piece) ≡ at + n = omega (arith, length-append has.bytes piece, has.long) in
    let stamped : IsStampOf (has.bytes ++ piece) found = stamps (has.bytes ++ piece) (feeds has.bytes has.fed) full in (
      has.bytes ++ piece,
      stamped,
      read_up_to (depot_told before from) size at n has.bytes piece has.long long has.within most end has.begins
          (subst (λ t. IsPieceTold t at piece) (kept_told before amid from has.kept) next),
      λ fits.
          let none : piece ≡ [] = no_piece piece (long ∙ none_of size at n end (omega (arith, stamped.size, full))) in (
            same_bytes path mid has.bytes piece none has.appended.file,
            subst (λ l. Raises (length l) old mid) (sym (ap (λ (l : List ℕ). has.bytes ++ l) none ∙ append-nil has.bytes)) has.appended.raises,
          ),
    )

pub feeding_keeps : (told : shelf.Told) (path : List (List ℕ)) (old mid : DiskState) (before amid after : DepotState) (holds : List ℕ → Type 0) (size at : ℕ)
    → Feeding told path old mid before amid holds size at → IsKept amid after → CopyKeeps path size old mid before after
feeding_keeps told path old mid before amid after holds size at has kept = record {
  works = works_wider (is_prefix path) (is_prefix path) (is_at path) (is_at path) (length has.bytes) size old mid (omega (arith, has.long, has.within)) (λ q out. out) (λ q out. out) has.appended.works;
  stands = appended_no_folder path has.bytes mid.told has.appended.file;
  kept = kept_then before amid after has.kept kept;
}

pub appending_keeps : (told : shelf.Told) (path : List (List ℕ)) (old mid new : DiskState) (before amid after : DepotState) (holds : List ℕ → Type 0) (size at n : ℕ) (piece : List ℕ)
    → Feeding told path old mid before amid holds size at → IsKept amid after → length piece ≡ n → at + n ≤ size → Works (is_prefix path) (is_at path) (length piece) mid new
    → Holds (λ e. is_no_folder (e path).node ≡ true) new → CopyKeeps path size old new before after
appending_keeps told path old mid new before amid after holds size at n piece has kept long fits works stands = record {
  works = appended_within path old mid new has.bytes piece size (omega (arith, has.long)) has.appended works;
  stands = stands;
  kept = kept_then before amid after has.kept kept;
}

pub feed_cause_read : (e : CopyErr) (old new : DiskState) (before amid after : DepotState) → IsKept before amid → ReadDepotCause amid after e → FeedCause old new before after e
feed_cause_read OutOfMemory old new before amid after kept cause = cause
feed_cause_read DiskFault old new before amid after kept cause = absurd cause
feed_cause_read DepotFault old new before amid after kept cause = rose_since before.faults amid.faults after.faults kept.count cause
feed_cause_read NotInDepot old new before amid after kept cause = cause
feed_cause_read (Mismatch stamp found) old new before amid after kept cause = cause

pub copy_cause_feed : (e : CopyErr) (told : shelf.Told) (listed : Stamp) (old new : DiskState) (before after : DepotState) → FeedCause old new before after e → CopyCause old new before after told listed e
copy_cause_feed OutOfMemory told listed old new before after cause = tt
copy_cause_feed DiskFault told listed old new before after cause = cause
copy_cause_feed DepotFault told listed old new before after cause = cause
copy_cause_feed NotInDepot told listed old new before after cause = absurd cause
copy_cause_feed (Mismatch stamp found) told listed old new before after cause = absurd cause

pub copy_cause_later : (e : CopyErr) (told : shelf.Told) (listed : Stamp) (old mid new : DiskState) (before amid after : DepotState) → old.faults ≤ mid.faults → before.faults ≤ amid.faults
    → CopyCause mid new amid after told listed e → CopyCause old new before after told listed e
copy_cause_later OutOfMemory told listed old mid new before amid after disk depot cause = tt
copy_cause_later DiskFault told listed old mid new before amid after disk depot cause = rose_since old.faults mid.faults new.faults disk cause
copy_cause_later DepotFault told listed old mid new before amid after disk depot cause = rose_since before.faults amid.faults after.faults depot cause
copy_cause_later NotInDepot told listed old mid new before amid after disk depot cause = cause
copy_cause_later (Mismatch stamp found) told listed old mid new before amid after disk depot cause = cause

-- the file was made, and then copied
pub keeps_then : (path : List (List ℕ)) (size : ℕ) (old mid new : DiskState) (before amid after : DepotState) → Works (is_prefix path) (is_at path) 0 old mid → IsKept before amid
    → CopyKeeps path size mid new amid after → CopyKeeps path size old new before after
keeps_then path size old mid new before amid after works kept keeps = record {
  works = works_then (is_prefix path) (is_at path) 0 size size old mid new (omega arith) works keeps.works;
  stands = keeps.stands;
  kept = kept_then before amid after kept keeps.kept;
}

pub keeps_synced : (path : List (List ℕ)) (size : ℕ) (old mid new : DiskState) (before after : DepotState) → CopyKeeps path size old mid before after → Works nowhere nowhere 0 mid new
    → CopyKeeps path size old new before after
keeps_synced path size old mid new before after keeps works = record {
  works = and_synced path size old mid new keeps.works works;
  stands = still_no_folder path mid new keeps.stands works;
  kept = keeps.kept;
}

free_no_folder : (path : List (List ℕ)) (x : Option Told) → IfSome x (λ d. IsFree d.places path) → IfSome x (λ d. is_no_folder (d.places path).node ≡ true)
free_no_folder path x free = holds_map (λ d. IsFree d path) (λ d. is_no_folder (d path).node ≡ true) (λ d is. ap is_no_folder is.path_absent) x free

-- nothing was done
pub keeps_nothing : (path : List (List ℕ)) (size : ℕ) (s : DiskState) (before after : DepotState) → IfSome s.told (λ d. IsFree d.places path) → IsKept before after → CopyKeeps path size s s before after
keeps_nothing path size s before after free kept = record {
  works = works_wider (is_prefix path) (is_prefix path) (is_at path) (is_at path) 0 size s s (omega arith) (λ q out. out) (λ q out. out) (works_itself (is_prefix path) (is_at path) s);
  stands = free_no_folder path s.told free;
  kept = kept;
}

pub keeps_made : (path : List (List ℕ)) (size : ℕ) (old new : DiskState) (d : DepotState) → Works (is_prefix path) (is_at path) 0 old new → Holds (λ e. is_no_folder (e path).node ≡ true) new
    → (before : DepotState) → IsKept before d → CopyKeeps path size old new before d
keeps_made path size old new d works stands before kept = record {
  works = works_wider (is_prefix path) (is_prefix path) (is_at path) (is_at path) 0 size old new (omega arith) (λ q out. out) (λ q out. out) works;
  stands = stands;
  kept = kept;
}

pub told_whole : (told : shelf.Told) (size : ℕ) (bytes : List ℕ) → IsReadUpTo told size bytes → length bytes ≤ size → IsTold told bytes
told_whole untold size bytes read fits = tt
told_whole missing size bytes read fits = read
told_whole (stored all) size bytes read fits = read ∙ take_all (size + 1) all (short all read)
  where
    short : (all : List ℕ) → bytes ≡ take (size + 1) all → length all ≤ size + 1
    short all same = omega (arith, ap length same, length-take (size + 1) all)

pub copied_whole : (told : shelf.Told) (listed found : Stamp) (path : List (List ℕ)) (old mid new : DiskState) → found ≡ listed → IsFed told listed.size path old mid found → Works nowhere nowhere 0 mid new
    → Holds (λ e. (e path).unsynced_bytes ≡ false) new → IsCopied told listed path old new
copied_whole told listed found path old mid new same fed works hard =
    let sized : found.size ≡ listed.size = ap (λ (s : Stamp). s.size) same in
    let within = fed.3 (omega (arith, sized)) in (
      fed.0,
      subst (IsStampOf fed.0) same fed.1,
      told_whole told listed.size fed.0 fed.2 (omega (arith, fed.1.size, sized)),
      synced_written path fed.0 mid new within.0 works hard,
      raises_before nowhere nowhere (length fed.0) old mid new within.1 works,
    )

-- the file was made, and then copied
pub copied_then : (told : shelf.Told) (listed : Stamp) (path : List (List ℕ)) (old mid new : DiskState) → Works (is_prefix path) (is_at path) 0 old mid → IsCopied told listed path mid new
    → IsCopied told listed path old new
copied_then told listed path old mid new works copied =
    (copied.0, copied.1, copied.2, copied.3, raises_after (is_prefix path) (is_at path) (length copied.0) old mid new works copied.4)

pub not_last : (b : Bool) (n left : ℕ) → ((n ≡ 0) ⊎ (left < n) → b ≡ true) → b ≡ false → n ≤ left
not_last b n left tells out = elim (cases_lt left n) [
  | inl past ↦ absurd (false≢true (sym out ∙ tells (inr past)))
  | inr within ↦ within
]

pub last_past : (size at n : ℕ) → at ≤ size → (n ≡ 0) ⊎ (size - at < n) → (n ≡ 0) ⊎ (size < at + n)
last_past size at n within (inl none) = inl none
last_past size at n within (inr past) = inr (omega arith)

equal_bytes : (xs ys : List ℕ) → pointwise eqb xs ys ≡ true → xs ≡ ys
equal_bytes [] [] same = refl
equal_bytes [] (y ∷ ys) same = absurd (false≢true same)
equal_bytes (x ∷ xs) [] same = absurd (false≢true same)
equal_bytes (x ∷ xs) (y ∷ ys) same =
    let parts = and_parts (eqb x y) (pointwise eqb xs ys) same in
    λ i. eqb-true x y parts.0 i ∷ equal_bytes xs ys parts.1 i

pub equal_stamps : (a b : Stamp) → true ≡ (eqb a.size b.size && pointwise eqb a.digest.0 b.digest.0) → a ≡ b
equal_stamps a b same =
    let parts = and_parts (eqb a.size b.size) (pointwise eqb a.digest.0 b.digest.0) (sym same) in
    let bytes = equal_bytes a.digest.0 b.digest.0 parts.1 in
    λ i. record { size = eqb-true a.size b.size parts.0 i; digest = record { 0 = bytes i } }
