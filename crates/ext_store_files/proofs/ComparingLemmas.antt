-- A kept file that is read beside another.
use Rattle.std.proofs.Common.{◌≡◌, ◌↔◌, ℕ, ◌+◌, ◌<◌, ◌≤◌, Bool, true, false, List, [], ◌++◌, length, take, drop, Option, Some, None, Result, IfSome, refl, sym, ap, ◌∙◌, subst, arith, unwrap_or}
use Rattle.std.specs.Prelude.{IsTrue}
use Rattle.std.specs.List.{between}
use Rattle.std.specs.Option.{is_some}
use Rattle.std.proofs.lemmas.Bool.{false≢true, eqb-true}
use Rattle.std.proofs.lemmas.List.{take_all}
use Rattle.std.proofs.Math.Seq.{take-add}
use Rattle.ext_text.specs.declared.digest.Digest.{Digest}
use Rattle.ext_tree.specs.declared.stamp.Stamp.{Stamp}
use Rattle.ext_disk.specs.Disk as disk
use Rattle.ext_disk.specs.Disk.{Node, folder, file, DiskState}
use Rattle.ext_disk.specs.Since.{Rests}
use Rattle.ext_depot.specs.Depot.{DepotState, IsKept}
use Rattle.ext_host.specs.Shelf as shelf
use Rattle.ext_host.specs.Shelf.{untold, missing, stored, IsFound, IsTold}
use Rattle.ext_host.specs.declared.home.Home.{Home}
use Rattle.ext_store_files.specs.Reading.{IsPieceOf, is_file_of}
use Rattle.ext_store_files.specs.HeldFiles.{told_at, node_told, IsListed, IsDigestAt}
use Rattle.ext_store_files.specs.Copying.{depot_told}
use Rattle.ext_store_files.specs.Beside.{DepotCause, IsFollowed}
use Rattle.ext_store_files.specs.Comparing.{IsSame, CompareCause, compare_err_of_copy}
use Rattle.ext_store_files.specs.declared.beside.Beside.{Beside}
use Rattle.ext_store_files.specs.declared.errors.CopyErr.{CopyErr}
use Rattle.ext_store_files.specs.declared.errors.CopyErr.TheVariants as copy_errors
use Rattle.ext_store_files.proofs.HashingLemmas.{HasHashed, hashed_nothing, hashed_more}
use Rattle.ext_store_files.proofs.CopyingLemmas.{kept_then, rose_since}
use Rattle.ext_store_files.proofs.BesideLemmas.{between_taken, parts_same, tested}

node_bytes : (node : Option Node) (size : ℕ) (bytes : List ℕ) → is_file_of size node ≡ true → ((all : List ℕ) → node ≡ Some (file all) → all ≡ bytes ++ drop (length bytes) all) → length bytes ≡ size → IsTold (node_told node) bytes
node_bytes None size bytes is begins long = absurd (false≢true is)
node_bytes (Some folder) size bytes is begins long = absurd (false≢true is)
node_bytes (Some (file all)) size bytes is begins long =
    let sized : length all ≡ size = eqb-true (length all) size is in
    sym (Rattle.ext_store_files.proofs.ReadingLemmas.whole_read all bytes (begins all refl) (omega arith))

-- what was read of a file of this size is all of it
pub bytes_told : (x : Option disk.Told) (path : List (List ℕ)) (size : ℕ) (bytes : List ℕ) → IfSome x (λ d. is_file_of size (d.places path).node ≡ true)
    → IfSome x (λ d. (all : List ℕ) → (d.places path).node ≡ Some (file all) → all ≡ bytes ++ drop (length bytes) all) → length bytes ≡ size → IsTold (told_at x path) bytes
bytes_told None path size bytes is begins long = tt
bytes_told (Some d) path size bytes is begins long = node_bytes (d.places path).node size bytes is begins long

-- so much of a kept file was hashed, and as much of the depot's beside it
pub record Both (path from : List (List ℕ)) (old new : DiskState) (before after : DepotState) (listed : Stamp) (holds : List ℕ → Type 0) (brought : Result Beside CopyErr) (at : ℕ) : Type 0 where
  pub ours : HasHashed old new path listed.size holds at
  pub theirs : IsFollowed before after (depot_told before from) listed ours.bytes brought
  pub kept : IsKept before after

pub both_nothing : (path from : List (List ℕ)) (s : DiskState) (before after : DepotState) (listed : Stamp) (holds : List ℕ → Type 0) (brought : Result Beside CopyErr)
    → Rests s s → holds [] → IsFollowed before after (depot_told before from) listed [] brought → IsKept before after → Both path from s s before after listed holds brought 0
unfolding hashed_nothing
both_nothing path from s before after listed holds brought rests fed is kept = record {
  ours = hashed_nothing s path listed.size holds rests fed;
  theirs = is;
  kept = kept;
}

pub both_more : (path from : List (List ℕ)) (old mid new : DiskState) (before amid after : DepotState) (listed : Stamp) (held holds : List ℕ → Type 0) (brought next : Result Beside CopyErr) (at : ℕ) (piece : List ℕ) (n : ℕ)
    → Both path from old mid before amid listed held brought at → Rests mid new → length piece ≡ n → n + at ≤ listed.size → ((m : List ℕ) → held m → holds (m ++ piece)) → IsPieceOf mid path at piece
    → ((before : DepotState) (xs : List ℕ) → length xs ≡ at → IsKept before amid → IsFollowed before amid (depot_told before from) listed xs brought → IsFollowed before after (depot_told before from) listed (xs ++ piece) next)
    → IsKept amid after → Both path from old new before after listed holds next (at + n)
unfolding hashed_more
both_more path from old mid new before amid after listed held holds brought next at piece n has rests long fits feeds told follows kept = record {
  ours = hashed_more old mid new path listed.size held holds at piece n has.ours rests long fits feeds told;
  theirs = follows before has.ours.bytes has.ours.long has.kept has.theirs;
  kept = kept_then before amid after has.kept kept;
}

-- so much of a kept file was hashed, and it is the text's or not
pub record WithText (path : List (List ℕ)) (old new : DiskState) (text : List ℕ) (holds : List ℕ → Type 0) (same : Bool) (at : ℕ) : Type 0 where
  pub ours : HasHashed old new path (length text) holds at
  pub equal : IsTrue same ↔ (ours.bytes ≡ take at text)

pub with_nothing : (path : List (List ℕ)) (s : DiskState) (text : List ℕ) (holds : List ℕ → Type 0) → Rests s s → holds [] → WithText path s s text holds true 0
unfolding hashed_nothing
with_nothing path s text holds rests fed = record {
  ours = hashed_nothing s path (length text) holds rests fed;
  equal = (λ is. refl, λ same. refl);
}

pub with_more : (path : List (List ℕ)) (old mid new : DiskState) (text : List ℕ) (held holds : List ℕ → Type 0) (same next : Bool) (at : ℕ) (piece : List ℕ) (n : ℕ)
    → WithText path old mid text held same at → Rests mid new → length piece ≡ n → n + at ≤ length text → ((m : List ℕ) → held m → holds (m ++ piece)) → IsPieceOf mid path at piece
    → (IsTrue next ↔ (IsTrue same × (piece ≡ between at (at + n) text))) → WithText path old new text holds next (at + n)
unfolding hashed_more
with_more path old mid new text held holds same next at piece n has rests long fits feeds told still = record {
  ours = hashed_more old mid new path (length text) held holds at piece n has.ours rests long fits feeds told;
  equal =
      let joined : take (at + n) text ≡ take at text ++ between at (at + n) text = take-add at n text ∙ ap (λ l. take at text ++ l) (sym (between_taken text at n)) in
      subst (λ l. IsTrue next ↔ (has.ours.bytes ++ piece ≡ l)) (sym joined)
      (parts_same (IsTrue same) (IsTrue next) has.ours.bytes (take at text) piece (between at (at + n) text) short has.equal still);
}
  where
    short : length has.ours.bytes ≡ length (take at text)
    short = omega (arith, Rattle.std.proofs.Common.length-take at text, has.ours.long)

-- whether a file that was read whole is the text
pub text_same : (told : shelf.Told) (bytes text : List ℕ) (same : Bool) (at : ℕ) → IsTold told bytes → length text ≤ at → (IsTrue same ↔ (bytes ≡ take at text)) → IsSame told (stored text) same
text_same untold bytes text same at is past tells = tt
text_same missing bytes text same at is past tells = tt
text_same (stored all) bytes text same at is past tells =
    let whole : take at text ≡ text = take_all at text past in
    tested same (all ≡ text) (λ yes. sym is ∙ tells.0 yes ∙ whole) (λ equal. tells.1 (is ∙ equal ∙ sym whole))

-- a file whose digest is the listed one is listed
pub digest_listed : (told : shelf.Told) (listed : Stamp) (found : Option Digest) → IsDigestAt told listed.size found → found ≡ Some listed.digest → IsListed told listed
digest_listed untold listed found at is = tt
digest_listed missing listed found at is = absurd (false≢true (ap is_some (sym at ∙ is)))
digest_listed (stored bytes) listed None at is = absurd (false≢true (ap is_some is))
digest_listed (stored bytes) listed (Some digest) at is = record { size = sym at.0; digest = ap (λ o. (unwrap_or o digest).0) (sym is) ∙ at.1 }

-- why a file of the depot is not the listed one, where the kept one is
pub brought_cause : (e : CopyErr) (old new : DiskState) (before amid after : DepotState) (ours theirs : shelf.Told) (home : Home) (listed : Stamp) → IsListed ours listed → IsKept before amid
    → DepotCause amid after theirs listed e → CompareCause old new before after ours theirs home listed (compare_err_of_copy e)
brought_cause copy_errors.OutOfMemory old new before amid after ours theirs home listed mine kept cause = tt
brought_cause copy_errors.DiskFault old new before amid after ours theirs home listed mine kept cause = absurd cause
brought_cause copy_errors.DepotFault old new before amid after ours theirs home listed mine kept cause = rose_since before.faults amid.faults after.faults kept.count cause
brought_cause copy_errors.NotInDepot old new before amid after ours theirs home listed mine kept cause = (mine, cause)
brought_cause (copy_errors.Mismatch stamp found) old new before amid after ours theirs home listed mine kept cause = (mine, cause.0, cause.1)
