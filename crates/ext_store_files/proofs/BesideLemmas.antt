-- A file of the depot that is read beside the bytes of another, piece by piece.
use Rattle.std.proofs.Common.{◌≡◌, ◌≢◌, ◌⊎◌, ◌↔◌, ℕ, zero, suc, ◌+◌, ◌<◌, ◌≤◌, Bool, true, false, List, [], ◌++◌, length, take, drop, Option, Some, None, Result, Ok, Err, IfSome, refl, sym, ap, ◌∙◌, subst, inl, inr, arith, length-append, append_assoc}
use Rattle.std.specs.Prelude.{IsSome, IsTrue, IfOk, MatchBool}
use Rattle.std.specs.List.{between}
use Rattle.std.proofs.lemmas.Bool.{false≢true}
use Rattle.std.proofs.lemmas.List.{append-nil, drop-take, take_all}
use Rattle.std.proofs.lemmas.Slice.{between_is}
use Rattle.std.proofs.Math.Seq.{take-add, take-append_seam, drop-append_seam}
use Rattle.ext_tree.specs.declared.stamp.Stamp.{Stamp}
use Rattle.ext_depot.specs.Depot.{DepotState, Files, IsKept}
use Rattle.ext_host.specs.Held.{IsStampOf}
use Rattle.ext_host.specs.Shelf as shelf
use Rattle.ext_host.specs.Shelf.{untold, missing, stored, IsTold}
use Rattle.ext_store_files.specs.HeldFiles.{IsListed}
use Rattle.ext_store_files.specs.Copying.{BeginsTold, bytes_told, contents_told, depot_told, IsReadUpTo, IsPieceTold, IsThere, ReadDepotCause}
use Rattle.ext_store_files.specs.Beside.{DepotCause, IsBeside, IsFollowed}
use Rattle.ext_store_files.specs.Comparing.{IsSame}
use Rattle.ext_store_files.specs.declared.beside.Beside.{Beside}
use Rattle.ext_store_files.specs.declared.errors.CopyErr.{CopyErr}
use Rattle.ext_store_files.specs.declared.errors.CopyErr.TheVariants.{OutOfMemory, DiskFault, DepotFault, NotInDepot, Mismatch}
use Rattle.ext_store_files.proofs.ReadingLemmas.{whole_read}
use Rattle.ext_store_files.proofs.CopyingLemmas.{begins_then, read_up_to, kept_itself, kept_then, kept_told, kept_there, rose_since, told_whole}

-- a file stands where one begins with some bytes
begins_there : (contents : Option Files) (path : List (List ℕ)) (bytes : List ℕ) → BeginsTold (contents_told contents path) bytes → IfSome contents (λ files. IsSome (files path))
begins_there None path bytes begins = tt
begins_there (Some files) path bytes begins = some (files path) begins
  where
    some : (told : Option (List ℕ)) → BeginsTold (bytes_told told) bytes → IsSome told
    some None begins = absurd begins
    some (Some all) begins = refl

pub followed_there : (s t : DepotState) (path : List (List ℕ)) (listed : Stamp) (xs : List ℕ) (brought : Result Beside CopyErr) → IsKept s t → IsFollowed s t (depot_told s path) listed xs brought → IfOk brought (λ _. IsThere t path)
followed_there s t path listed xs (Ok beside) kept is = kept_there s t path kept (begins_there s.contents path is.0 is.2)
followed_there s t path listed xs (Err e) kept is = tt

-- two texts in two parts of the same lengths are the same where their parts are
first_same : (xs ys a b : List ℕ) → length xs ≡ length ys → xs ++ a ≡ ys ++ b → xs ≡ ys
first_same xs ys a b long same = sym (take-append_seam xs a) ∙ ap (take (length xs)) same ∙ ap (λ n. take n (ys ++ b)) long ∙ take-append_seam ys b

rest_same : (xs ys a b : List ℕ) → length xs ≡ length ys → xs ++ a ≡ ys ++ b → a ≡ b
rest_same xs ys a b long same = sym (drop-append_seam xs a) ∙ ap (drop (length xs)) same ∙ ap (λ n. drop n (ys ++ b)) long ∙ drop-append_seam ys b

pub parts_same : (P Q : Type 0) (xs ys a b : List ℕ) → length xs ≡ length ys → (P ↔ (xs ≡ ys)) → (Q ↔ (P × (a ≡ b))) → Q ↔ (xs ++ a ≡ ys ++ b)
parts_same P Q xs ys a b long before now = (
  λ q. let parts = now.0 q in λ i. before.0 parts.0 i ++ parts.1 i,
  λ same. now.1 (before.1 (first_same xs ys a b long same), rest_same xs ys a b long same),
)

pub between_taken : (xs : List ℕ) (at n : ℕ) → between at (at + n) xs ≡ take n (drop at xs)
between_taken xs at n = between_is xs at (at + n) ∙ drop-take at n xs

-- so many of the bytes of a piece were read of the depot's file and hashed, and are the same or not
pub record BesidePiece (from : List (List ℕ)) (before after : DepotState) (at : ℕ) (piece : List ℕ) (held holds : List ℕ → Type 0) (first same : Bool) (done : ℕ) : Type 0 where
  pub read : List ℕ
  pub long : length read ≡ done
  pub within : done ≤ length piece
  pub feeds : (m : List ℕ) → held m → holds (m ++ read)
  pub goes_on : (ys : List ℕ) → length ys ≡ at → BeginsTold (depot_told before from) ys → BeginsTold (depot_told before from) (ys ++ read)
  pub equal : IsTrue same ↔ (IsTrue first × (take done piece ≡ read))
  pub kept : IsKept before after

pub beside_nothing : (from : List (List ℕ)) (s : DepotState) (at : ℕ) (piece : List ℕ) (held : List ℕ → Type 0) (same : Bool) → BesidePiece from s s at piece held held same same 0
beside_nothing from s at piece held same = record {
  read = [];
  long = refl;
  within = omega arith;
  feeds = λ m has. subst held (sym (append-nil m)) has;
  goes_on = λ ys long begins. subst (BeginsTold (depot_told s from)) (sym (append-nil ys)) begins;
  equal = (λ is. (is, refl), λ both. both.0);
  kept = kept_itself s;
}

pub beside_more : (from : List (List ℕ)) (before amid after : DepotState) (at : ℕ) (piece : List ℕ) (held holds later : List ℕ → Type 0) (first same next : Bool) (done n : ℕ) (more : List ℕ)
    → BesidePiece from before amid at piece held holds first same done → IsKept amid after → length more ≡ n → done + n ≤ length piece → ((m : List ℕ) → holds m → later (m ++ more))
    → IsPieceTold (depot_told amid from) (at + done) more → (IsTrue next ↔ (IsTrue same × (between done (done + n) piece ≡ more)))
    → BesidePiece from before after at piece held later first next (done + n)
beside_more from before amid after at piece held holds later first same next done n more has kept long fits feeds told still = record {
  read = has.read ++ more;
  long = omega (arith, length-append has.read more, has.long);
  within = fits;
  feeds = λ m is. subst later (append_assoc m has.read more) (feeds (m ++ has.read) (has.feeds m is));
  goes_on = λ ys at_end begins.
      subst (BeginsTold (depot_told before from)) (append_assoc ys has.read more)
      (begins_then (depot_told before from) (ys ++ has.read) more (at + done) (omega (arith, length-append ys has.read, has.long)) (has.goes_on ys at_end begins)
      (subst (λ t. IsPieceTold t (at + done) more) (kept_told before amid from has.kept) told));
  equal =
      let joined : take (done + n) piece ≡ take done piece ++ take n (drop done piece) = take-add done n piece in
      let seam : length (take done piece) ≡ length has.read = short in (
        λ is.
            let now = still.0 is in
            let then = has.equal.0 now.0 in
            (then.0, joined ∙ (λ i. then.1 i ++ (sym (between_taken piece done n) ∙ now.1) i)),
        λ both.
            let split : take done piece ++ take n (drop done piece) ≡ has.read ++ more = sym joined ∙ both.1 in
            still.1 (
              has.equal.1 (both.0, first_same (take done piece) has.read (take n (drop done piece)) more seam split),
              between_taken piece done n ∙ rest_same (take done piece) has.read (take n (drop done piece)) more seam split,
            ),
      );
  kept = kept_then before amid after has.kept kept;
}
  where
    short : length (take done piece) ≡ length has.read
    short = omega (arith, Rattle.std.proofs.Common.length-take done piece, has.long)

-- the whole piece was read
pub beside_whole : (from : List (List ℕ)) (before after : DepotState) (at : ℕ) (piece : List ℕ) (held holds : List ℕ → Type 0) (first same : Bool) (done : ℕ) (xs : List ℕ)
    → BesidePiece from before after at piece held holds first same done → length piece ≤ done → length xs ≡ at
    → (ys : List ℕ) × (length ys ≡ length xs) × BeginsTold (depot_told before from) ys × held ys × (IsTrue first ↔ (xs ≡ ys))
    → (ys : List ℕ) × (length ys ≡ length (xs ++ piece)) × BeginsTold (depot_told before from) ys × holds ys × (IsTrue same ↔ (xs ++ piece ≡ ys))
beside_whole from before after at piece held holds first same done xs has past long is = (
  is.0 ++ has.read,
  omega (arith, length-append is.0 has.read, length-append xs piece, is.1, has.long, has.within),
  has.goes_on is.0 (is.1 ∙ long) is.2,
  has.feeds is.0 is.3,
  parts_same (IsTrue first) (IsTrue same) xs is.0 piece has.read (sym is.1) is.4
      (subst (λ l. IsTrue same ↔ (IsTrue first × (l ≡ has.read))) (take_all done piece past) has.equal),
)

-- a stamp of what was read, up to one byte more than so many
abbrev pub IsStampUpTo : shelf.Told → ℕ → Stamp → Type 0
IsStampUpTo told size found = (bytes : List ℕ) × IsStampOf bytes found × IsReadUpTo told size bytes

-- nothing more is read
pub stamps_end : (told : shelf.Told) (holds later : List ℕ → Type 0) (size at n : ℕ) (bytes piece : List ℕ) (found : Stamp) → length bytes ≡ at → BeginsTold told bytes → holds bytes → at ≤ size
    → length piece ≡ n → at + n ≤ size + 1 → (n ≡ 0) ⊎ (size < at + n) → ((m : List ℕ) → holds m → later (m ++ piece)) → IsPieceTold told at piece
    → ((m : List ℕ) → later m → length m ≡ at + n → IsStampOf m found) → IsStampUpTo told size found
stamps_end told holds later size at n bytes piece found at_end begins held within long most last feeds next stamps = (
  bytes ++ piece,
  stamps (bytes ++ piece) (feeds bytes held) (omega (arith, length-append bytes piece)),
  read_up_to told size at n bytes piece at_end long within most last begins next,
)

-- the depot's file ends within the piece
pub beside_ends : (from : List (List ℕ)) (before amid after : DepotState) (at : ℕ) (piece : List ℕ) (held holds later : List ℕ → Type 0) (first same : Bool) (done n : ℕ) (more : List ℕ) (listed found : Stamp) (xs : List ℕ)
    → BesidePiece from before amid at piece held holds first same done → done < length piece → at + length piece ≤ listed.size → length more ≡ n → n ≡ 0
    → ((m : List ℕ) → holds m → later (m ++ more)) → IsPieceTold (depot_told amid from) (at + done) more → ((m : List ℕ) → later m → length m ≡ at + done → IsStampOf m found)
    → length xs ≡ at → (ys : List ℕ) × (length ys ≡ length xs) × BeginsTold (depot_told before from) ys × held ys × (IsTrue first ↔ (xs ≡ ys))
    → DepotCause before after (depot_told before from) listed (Mismatch listed found)
beside_ends from before amid after at piece held holds later first same done n more listed found xs has inside fits long none feeds told stamps at_end is =
    let whole : List ℕ = is.0 ++ has.read in
    let read : length whole ≡ at + done = omega (arith, length-append is.0 has.read, is.1, has.long) in
    let begins : BeginsTold (depot_told before from) whole = has.goes_on is.0 (is.1 ∙ at_end) is.2 in
    let fed = has.feeds is.0 is.3 in
    let stamped : IsStampOf (whole ++ more) found = stamps (whole ++ more) (feeds whole fed) (omega (arith, length-append whole more)) in
    let differs : found ≢ listed = λ same. let sizes = ap (λ (s : Stamp). s.size) same in omega (arith, stamped.size, length-append whole more) in
    let up : IsReadUpTo (depot_told before from) listed.size (whole ++ more) =
    read_up_to (depot_told before from) listed.size (at + done) n whole more read long (omega arith) (omega arith) (inl none) begins
    (subst (λ t. IsPieceTold t (at + done) more) (kept_told before amid from has.kept) told) in
    (refl, (differs, (whole ++ more, stamped, up)))

-- the depot had a fault within the piece
pub beside_fails : (e : CopyErr) (before amid after : DepotState) (told : shelf.Told) (listed : Stamp) → IsKept before amid → ReadDepotCause amid after e → DepotCause before after told listed e
beside_fails OutOfMemory before amid after told listed kept cause = cause
beside_fails DiskFault before amid after told listed kept cause = cause
beside_fails DepotFault before amid after told listed kept cause = rose_since before.faults amid.faults after.faults kept.count cause
beside_fails NotInDepot before amid after told listed kept cause = absurd cause
beside_fails (Mismatch stamp found) before amid after told listed kept cause = absurd cause

listed_told : (told : shelf.Told) (listed : Stamp) (bytes : List ℕ) → IsStampOf bytes listed → IsTold told bytes → IsListed told listed
listed_told untold listed bytes stamped is = tt
listed_told missing listed bytes stamped is = is
listed_told (stored all) listed bytes stamped is = subst (λ l. IsStampOf l listed) is stamped

-- a stamp of what was read that is the listed one is the file's
pub listed_there : (told : shelf.Told) (listed found : Stamp) → found ≡ listed → IsStampUpTo told listed.size found → IsListed told listed
listed_there told listed found same up =
    let stamped : IsStampOf up.0 listed = subst (IsStampOf up.0) same up.1 in
    listed_told told listed up.0 stamped (told_whole told listed.size up.0 up.2 (omega (arith, stamped.size)))

-- a test of a fact
pub tested : (b : Bool) (P : Type 0) → (IsTrue b → P) → (P → IsTrue b) → MatchBool b P (P → ⊥)
tested true P told tells = told refl
tested false P told tells = λ is. false≢true (tells is)

-- two files that were read whole are the same where what was read of them is
pub same_told : (ours theirs : shelf.Told) (xs ys : List ℕ) (listed : Stamp) (same : Bool) → IsTold ours xs → length xs ≡ listed.size → length ys ≡ length xs → BeginsTold theirs ys
    → (IsTrue same ↔ (xs ≡ ys)) → IsListed theirs listed → IsSame ours theirs same
same_told untold theirs xs ys listed same told sized long begins tells is = tt
same_told missing theirs xs ys listed same told sized long begins tells is = tt
same_told (stored all) untold xs ys listed same told sized long begins tells is = tt
same_told (stored all) missing xs ys listed same told sized long begins tells is = tt
same_told (stored all) (stored others) xs ys listed same told sized long begins tells is =
    let whole : others ≡ ys = whole_read others ys begins (omega (arith, is.size)) in
    tested same (all ≡ others) (λ yes. sym told ∙ tells.0 yes ∙ sym whole) (λ equal. tells.1 (told ∙ equal ∙ whole))

-- what is read past a size is nothing, or past it
pub past_size : (size n : ℕ) → (n ≡ 0) ⊎ (size < size + n)
past_size size zero = inl refl
past_size size (suc n) = inr (omega arith)

followed_since : (r s t : DepotState) (told : shelf.Told) (listed : Stamp) (xs : List ℕ) (next : Result Beside CopyErr) → IsKept r s → IsFollowed s t told listed xs next → IsFollowed r t told listed xs next
followed_since r s t told listed xs (Ok beside) kept is = is
followed_since r s t told listed xs (Err OutOfMemory) kept is = is
followed_since r s t told listed xs (Err DiskFault) kept is = is
followed_since r s t told listed xs (Err DepotFault) kept is = rose_since r.faults s.faults t.faults kept.count is
followed_since r s t told listed xs (Err NotInDepot) kept is = is
followed_since r s t told listed xs (Err (Mismatch stamp found)) kept is = is

-- a piece more was read
pub followed_more : (r s t : DepotState) (path : List (List ℕ)) (listed : Stamp) (xs piece : List ℕ) (brought next : Result Beside CopyErr) (beside : Beside) → brought ≡ Ok beside → IsKept r s
    → IsFollowed r s (depot_told r path) listed xs brought → (IsBeside (depot_told s path) xs beside → IsFollowed s t (depot_told s path) listed (xs ++ piece) next)
    → IsFollowed r t (depot_told r path) listed (xs ++ piece) next
followed_more r s t path listed xs piece brought next beside same kept is goes =
    let here : IsBeside (depot_told r path) xs beside = subst (IsFollowed r s (depot_told r path) listed xs) same is in
    let told : depot_told s path ≡ depot_told r path = kept_told r s path kept in
    followed_since r s t (depot_told r path) listed (xs ++ piece) next kept
    (subst (λ o. IsFollowed s t o listed (xs ++ piece) next) told (goes (subst (λ o. IsBeside o xs beside) (sym told) here)))
