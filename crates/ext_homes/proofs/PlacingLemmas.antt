-- The files of a coming host, given their homes one after another: nothing, one file more, and what stops it.
use Rattle.std.proofs.Common.{◌≡◌, ℕ, zero, suc, ◌+◌, ◌^◌, ◌<◌, ◌≤◌, true, false, cond, List, [], ◌∷◌, ◌++◌, length, Option, Some, None, IfSome, refl, sym, ap, ◌∙◌, subst, arith, append_assoc, append-nil, length-append, set, drop, take, get_or, drop-cons}
use Rattle.std.specs.List.{AllByRecursion, sum_by}
use Rattle.std.proofs.lemmas.List.Concat.{flat_map-append}
use Rattle.std.proofs.lemmas.List.Sums.{sum_by-append}
use Rattle.std.proofs.lemmas.Bool.{false≢true}
use Rattle.ext_text.proofs.ForCallers.{all_back}
use Rattle.ext_disk.specs.Disk.{Places, Told, DiskState, BothTold}
use Rattle.ext_disk.specs.Since.{Rests}
use Rattle.ext_depot.specs.Depot.{DepotState, IsKept}
use Rattle.ext_tree.specs.Tree.{Entries}
use Rattle.ext_tree.specs.declared.entry.Entry.{Entry}
use Rattle.ext_tree.specs.declared.entry.Entry.TheVariants.{Dir, Opaque, File, Link, Hide}
use Rattle.ext_tree.specs.declared.stamp.Stamp.{Stamp}
use Rattle.ext_host.specs.Held.{HeldFile}
use Rattle.ext_host.specs.Valid.{bytes_of}
use Rattle.ext_host.specs.declared.body.Body.{Body}
use Rattle.ext_host.specs.declared.body.Body.TheVariants.{Here, Kept, Depot}
use Rattle.ext_host.specs.declared.home.Home.{Home}
use Rattle.ext_disk.proofs.ForCallers.{rests_itself}
use Rattle.ext_store_files.specs.Appended.{raised}
use Rattle.ext_store_files.specs.HeldFiles.{node_told, told_at}
use Rattle.ext_store_files.specs.Names.{home_path}
use Rattle.ext_store_files.specs.Writing.{Holds, IsWritten, Works, WorksTold}
use Rattle.ext_store_files.proofs.ForCallers.{holds_map, kept_itself, kept_then, raised_then, told_then, works_itself, works_then, works_wider}
use Rattle.ext_homes.specs.Brought.{AreSmall, brought, brought_stamps, bytes_of_all, is_brought}
use Rattle.ext_homes.specs.Comparing.{stored_in}
use Rattle.ext_homes.specs.Giving.{AreBefore, home_told}
use Rattle.ext_homes.specs.KeptFiles.{lists_in}
use Rattle.ext_homes.specs.Placed.{Stored, AreBothPlaced, ArePlaced, IsBodyPlaced, IsEntryPlaced, IsFilePlaced}
use Rattle.ext_homes.specs.Placing.{EntryCause, Placing}
use Rattle.ext_homes.specs.Refused.{HomeCause, HomesCause, StopsAt}
use Rattle.ext_homes.specs.Written.{AreWritten, HasHomes, HasOnlyHomes, Writes, is_below}
use Rattle.ext_homes.specs.declared.errors.HomesErr.{HomesErr}
use Rattle.ext_store_files.specs.declared.fault.StoreFault.TheVariants.{OutOfMemory, DiskFault, DepotFault, Damaged}
use Rattle.ext_homes.specs.declared.errors.HomesErr.TheVariants.{Fault, Mismatch, NotInDepot}
use Rattle.ext_homes.specs.declared.kept_files.KeptFile.{KeptFile}
use Rattle.ext_homes.proofs.HomePathsLemmas.{other_generation}
use Rattle.ext_homes.proofs.LeastLemmas.{brought_stays}
use Rattle.ext_homes.proofs.WritingLemmas.{more_homes}
use Rattle.ext_homes.proofs.StoredLemmas.{Any, IsAlike, all_any, cause_after, cause_since, entries_alike, homes_cause_since, placed_both}

same_number : (n k : ℕ) (d : Places) → HasHomes n k d → HasHomes n (k + 0) d
same_number n k d has = subst (λ i. HasHomes n i d) (omega arith) has

writes_nothing : (n k : ℕ) (d : Told) → HasHomes n k d.places → Writes n k [] d d
writes_nothing n k d has = record {
  files = tt;
  homes = same_number n k d.places has;
  earlier = λ j bytes less written. written;
  appended = refl;
}

-- files have their homes where nothing changed
pub placing_rests : (Homes : List (List ℕ) → Type 0) (n k : ℕ) (stamps : List Stamp) (old new : DiskState) → Holds (HasHomes n k) old → Rests old new → Homes [] → Placing Homes n k k stamps old new
placing_rests Homes n k stamps old new homes rests is = record {
  written = [];
  homes = is;
  count = omega arith;
  few = omega arith;
  told = subst (λ x. BothTold (Writes n k []) old.told x) (sym rests.told) (itself old.told homes);
}
  where
    itself : (x : Option Told) → IfSome x (λ d. HasHomes n k d.places) → BothTold (Writes n k []) x x
    itself None has = tt
    itself (Some d) has = writes_nothing n k d has

-- a kept file has its home
body_placed : (old : Stored) (depot : DepotState) (n : ℕ) (held : HeldFile) (body : Body) (next : ℕ) → is_brought body ≡ false → IsBodyPlaced old depot n held body next held []
body_placed old depot n held (Here bytes) next kept = absurd (false≢true (sym kept))
body_placed old depot n held (Kept home) next kept = (refl, refl)
body_placed old depot n held (Depot path) next kept = absurd (false≢true (sym kept))

pub kept_placed : (old : Stored) (depot : DepotState) (n : ℕ) (held : HeldFile) (next : ℕ) → is_brought held.body ≡ false → IsFilePlaced old depot n held next held []
kept_placed old depot n held next kept = body_placed old depot n held held.body next kept

pub brought_both : (es gs : Entries HeldFile) → brought (es ++ gs) ≡ brought es ++ brought gs
brought_both es gs = flat_map-append (λ (e : List (List ℕ) × Entry HeldFile). brought_stamps e.1) es gs

-- no more files are brought than there are entries
few_stamps : (e : Entry HeldFile) → length (brought_stamps e) ≤ 1
few_stamps (Dir attributes) = omega arith
few_stamps (Opaque attributes) = omega arith
few_stamps (File attributes held) = elim (is_brought held.body) as (λ b. length (cond b (held.stamp ∷ []) []) ≤ 1) [ true ↦ omega arith | false ↦ omega arith ]
few_stamps (Link owner target) = omega arith
few_stamps Hide = omega arith

pub few_brought : (es : Entries HeldFile) → length (brought es) ≤ length es
few_brought [] = omega arith
few_brought (e ∷ es) = let here = few_stamps e.1 in let rest = few_brought es in omega (arith, length-append (brought_stamps e.1) (brought es))

pub bytes_both : (es gs : Entries HeldFile) → bytes_of_all (brought es) + bytes_of_all (brought gs) ≤ bytes_of_all (brought (es ++ gs))
bytes_both es gs =
    omega (arith, ap bytes_of_all (brought_both es gs), sum_by-append (λ (s : Stamp). s.size) (brought es) (brought gs))

keeps_list : (n k : ℕ) (written : List (List ℕ)) (d e : Told)
    → ((j : ℕ) (bytes : List ℕ) → j < k + length written → IsWritten (home_path n j) bytes d.places → IsWritten (home_path n j) bytes e.places)
    → AreWritten n k written d.places → AreWritten n k written e.places
keeps_list n k [] d e keeps are = tt
keeps_list n k (bytes ∷ more) d e keeps are = (keeps k bytes (omega arith) are.0, keeps_list n (k + 1) more d e (λ j other less. keeps j other (omega arith)) are.1)

written_both : (n k : ℕ) (xs ys : List (List ℕ)) (e : Places) → AreWritten n k xs e → AreWritten n (k + length xs) ys e → AreWritten n k (xs ++ ys) e
written_both n k [] ys e one two = let same : k + 0 ≡ k = omega arith in subst (λ i. AreWritten n i ys e) same two
written_both n k (bytes ∷ xs) ys e one two =
    let same : k + suc (length xs) ≡ (k + 1) + length xs = omega arith in
    (one.0, written_both n (k + 1) xs ys e one.1 (subst (λ i. AreWritten n i ys e) same two))

writes_then : (n k : ℕ) (xs ys : List (List ℕ)) (c d e : Told) → Writes n k xs c d → Writes n (k + length xs) ys d e → Writes n k (xs ++ ys) c e
writes_then n k xs ys c d e one two =
    let sum : (k + length xs) + length ys ≡ k + length (xs ++ ys) = omega (arith, length-append xs ys) in
    record {
      files = written_both n k xs ys e.places (keeps_list n k xs d e two.earlier one.files) two.files;
      homes = subst (λ i. HasHomes n i e.places) sum two.homes;
      earlier = λ j bytes less was. two.earlier j bytes (omega arith) (one.earlier j bytes less was);
      appended = two.appended ∙ ap (λ k. raised k (sum_by length ys)) one.appended ∙ raised_then c.appended (sum_by length xs) (sum_by length ys)
          ∙ ap (λ k. raised c.appended k) (sym (sum_by-append (λ (b : List ℕ). length b) xs ys));
    }

placed_one : (old : Stored) (depot : DepotState) (n : ℕ) (p : List (List ℕ)) (e : Entry HeldFile) (next : ℕ) (new : Entry HeldFile) (written : List (List ℕ))
    → IsEntryPlaced old depot n e next new written → ArePlaced old depot n ((p, e) ∷ []) next ((p, new) ∷ []) written
placed_one old depot n p e next new written is = (new, [], written, [], is, (refl, refl), refl, sym (append-nil written))

-- what is listed stays told where only this generation's folder changes
pub told_before : (n : ℕ) (lists : Stamp → Home → Type 0) (most : ℕ) (old new : DiskState) → n < 2 ^ 32 → AreBefore n lists → Works (is_below n) (is_below n) most old new
    → (stamp : Stamp) (home : Home) → lists stamp home → home_told new home ≡ home_told old home
told_before n lists most old new small before works stamp home listed =
    go old.told new.told works.told
  where
    go : (x y : Option Told) → BothTold (WorksTold (is_below n) most) x y → told_at y (home_path home.generation home.file) ≡ told_at x (home_path home.generation home.file)
    go None None works = refl
    go None (Some e) works = absurd works
    go (Some d) None works = absurd works
    go (Some d) (Some e) works = ap node_told (works.now (home_path home.generation home.file) (other_generation home.generation n home.file (before stamp home listed).0 small))

pub alike_before : (n most : ℕ) (files : List KeptFile) (old new : DiskState) → n < 2 ^ 32 → AreBefore n (lists_in files) → Works (is_below n) (is_below n) most old new
    → IsAlike Any (stored_in files new) (stored_in files old)
alike_before n most files old new small before works = record {
  gives = λ stamp home any listed. listed;
  takes = λ stamp home any listed. listed;
  tells = λ stamp home any listed. told_before n (lists_in files) most old new small before works stamp home listed;
}

-- entries have their homes so far
pub record PlacedSoFar (files : List KeptFile) (n next : ℕ) (done : Entries HeldFile) (new : Entries HeldFile) (count : ℕ) (first last : DiskState) (before after : DepotState) : Type 0 where
  pub works : Works (is_below n) (is_below n) (bytes_of_all (brought done)) first last
  pub kept : IsKept before after
  pub placed : Placing (λ written. ArePlaced (stored_in files first) before n done next new written) n next count (brought done) first last

pub none_placed : (files : List KeptFile) (n next : ℕ) (s : DiskState) (d : DepotState) → Holds (HasHomes n next) s → PlacedSoFar files n next [] [] next s s d d
none_placed files n next s d homes = record {
  works = works_itself (is_below n) (is_below n) s;
  kept = kept_itself d;
  placed = placing_rests (λ written. ArePlaced (stored_in files s) d n [] next [] written) n next [] s s homes (rests_itself s) (refl, refl);
}

both_writes : (n k : ℕ) (xs ys : List (List ℕ)) (r s t : DiskState) → BothTold (Writes n k xs) r.told s.told → BothTold (Writes n (k + length xs) ys) s.told t.told → BothTold (Writes n k (xs ++ ys)) r.told t.told
both_writes n k xs ys r s t one two = told_then (Writes n k xs) (Writes n (k + length xs) ys) (Writes n k (xs ++ ys)) (writes_then n k xs ys) r.told s.told t.told one two

-- two parts of entries, one after the other
pub placed_then : (files : List KeptFile) (n next mid count : ℕ) (es gs fs hs : Entries HeldFile) (r s t : DiskState) (a b c : DepotState) → n < 2 ^ 32 → AreBefore n (lists_in files)
    → PlacedSoFar files n next es fs mid r s a b → PlacedSoFar files n mid gs hs count s t b c → PlacedSoFar files n next (es ++ gs) (fs ++ hs) count r t a c
placed_then files n next mid count es gs fs hs r s t a b c small before one two =
    let alike = alike_before n (bytes_of_all (brought es)) files r s small before one.works in
    let here : mid ≡ next + length one.placed.written = one.placed.count in
    record {
      works = works_then (is_below n) (is_below n) (bytes_of_all (brought es)) (bytes_of_all (brought gs)) (bytes_of_all (brought (es ++ gs))) r s t (bytes_both es gs) one.works two.works;
      kept = kept_then a b c one.kept two.kept;
      placed = record {
        written = one.placed.written ++ two.placed.written;
        homes = placed_both (stored_in files r) a n es gs next fs hs one.placed.written two.placed.written one.placed.homes
            (subst (λ i. ArePlaced (stored_in files r) a n gs i hs two.placed.written) here
            (entries_alike Any (stored_in files s) (stored_in files r) b a n gs mid hs two.placed.written alike (λ body. brought_stays a b body one.kept) (all_any gs) two.placed.homes));
        count = let last = two.placed.count in omega (arith, here, length-append one.placed.written two.placed.written);
        few = let left = one.placed.few in let right = two.placed.few in omega (arith, length-append one.placed.written two.placed.written, ap length (brought_both es gs), length-append (brought es) (brought gs));
        told = both_writes n next one.placed.written two.placed.written r s t one.placed.told (subst (λ i. BothTold (Writes n i two.placed.written) s.told t.told) here two.placed.told);
      };
    }

pub drop_next : {X : Type 0} (xs : List X) (i : ℕ) (d : X) → i < length xs → drop i xs ≡ get_or xs i d ∷ drop (i + 1) xs
drop_next xs i d within =
    let next : suc i ≡ i + 1 = omega arith in
    subst (λ k. drop i xs ≡ get_or xs i d ∷ drop k xs) next (drop-cons xs i d within)

take_suc : {X : Type 0} (xs : List X) (i : ℕ) (y : X) → i < length xs → take (suc i) (set xs i y) ≡ take i xs ++ y ∷ []
take_suc [] i y within = absurd (omega arith)
take_suc (x ∷ xs) zero y within = refl
take_suc (x ∷ xs) (suc i) y within = ap (λ l. x ∷ l) (take_suc xs i y (omega arith))

pub take_next : {X : Type 0} (xs : List X) (i : ℕ) (y : X) → i < length xs → take (i + 1) (set xs i y) ≡ take i xs ++ y ∷ []
take_next xs i y within =
    let next : suc i ≡ i + 1 = omega arith in
    subst (λ k. take k (set xs i y) ≡ take i xs ++ y ∷ []) next (take_suc xs i y within)

-- some entries have their homes, and the rest is to come
pub record Going (files : List KeptFile) (n next : ℕ) (all rest : Entries HeldFile) (new : Entries HeldFile) (count : ℕ) (first last : DiskState) (before after : DepotState) : Type 0 where
  pub done : Entries HeldFile
  pub split : all ≡ done ++ rest
  pub so_far : PlacedSoFar files n next done new count first last before after

pub goes : (files : List KeptFile) (n next : ℕ) (all rest : Entries HeldFile) (new : Entries HeldFile) (s : DiskState) (d : DepotState) → all ≡ rest → new ≡ [] → Holds (HasHomes n next) s
    → Going files n next all rest new next s s d d
goes files n next all rest new s d is empty homes = record {
  done = [];
  split = is;
  so_far = subst (λ l. PlacedSoFar files n next [] l next s s d d) (sym empty) (none_placed files n next s d homes);
}

-- so many files have their homes
told_homes : (n next : ℕ) (written : List (List ℕ)) (x y : Option Told) → BothTold (Writes n next written) x y → IfSome y (λ e. HasHomes n (next + length written) e.places)
told_homes n next written None None both = tt
told_homes n next written None (Some e) both = absurd both
told_homes n next written (Some d) None both = absurd both
told_homes n next written (Some d) (Some e) both = both.homes

pub homes_so_far : (files : List KeptFile) (n next : ℕ) (all rest new : Entries HeldFile) (count : ℕ) (first last : DiskState) (before after : DepotState)
    → Going files n next all rest new count first last before after → Holds (HasHomes n count) last
homes_so_far files n next all rest new count first last before after going =
    let placed = going.so_far.placed in
    subst (λ i. Holds (HasHomes n i) last) (sym placed.count) (told_homes n next placed.written first.told last.told placed.told)

-- there is a number for one more
pub number_so_far : (files : List KeptFile) (n next : ℕ) (all rest new : Entries HeldFile) (x : List (List ℕ) × Entry HeldFile) (later : Entries HeldFile) (count most : ℕ) (first last : DiskState) (before after : DepotState)
    → rest ≡ x ∷ later → next + length all ≤ most → Going files n next all rest new count first last before after → count < most
number_so_far files n next all rest new x later count most first last before after is fits going =
    let placed = going.so_far.placed in
    let few = placed.few in
    let brings = few_brought going.done in
    omega (arith, placed.count, ap length going.split, length-append going.done rest, ap length is)

-- the entry is one of all
here_split : (all done rest : Entries HeldFile) (x : List (List ℕ) × Entry HeldFile) (later : Entries HeldFile) → all ≡ done ++ rest → rest ≡ x ∷ later → all ≡ done ++ x ∷ later
here_split all done rest x later split is = split ∙ ap (λ l. done ++ l) is

pub small_here : (files : List KeptFile) (n next : ℕ) (all rest new : Entries HeldFile) (x : List (List ℕ) × Entry HeldFile) (later : Entries HeldFile) (count : ℕ) (first last : DiskState) (before after : DepotState)
    → rest ≡ x ∷ later → AreSmall all → Going files n next all rest new count first last before after → bytes_of x.1 < 2 ^ 63
small_here files n next all rest new x later count first last before after is small going =
    let Small : List (List ℕ) × Entry HeldFile → Type 0 = λ e. bytes_of e.1 < 2 ^ 63 in
    (all_back Small going.done (x ∷ later) (subst (AllByRecursion Small) (here_split all going.done rest x later going.split is) small)).0

-- one entry alone
one_placed : (files : List KeptFile) (n count more : ℕ) (p : List (List ℕ)) (e new : Entry HeldFile) (s t : DiskState) (a b : DepotState)
    → Works (is_below n) (is_below n) (bytes_of_all (brought_stamps e)) s t → IsKept a b → Placing (λ written. IsEntryPlaced (stored_in files s) a n e count new written) n count more (brought_stamps e) s t
    → PlacedSoFar files n count ((p, e) ∷ []) ((p, new) ∷ []) more s t a b
one_placed files n count more p e new s t a b works kept placed = record {
  works = subst (λ l. Works (is_below n) (is_below n) (bytes_of_all l) s t) (sym (append-nil (brought_stamps e))) works;
  kept = kept;
  placed = record {
    written = placed.written;
    homes = placed_one (stored_in files s) a n p e count new placed.written placed.homes;
    count = placed.count;
    few = subst (λ l. length placed.written ≤ length l) (sym (append-nil (brought_stamps e))) placed.few;
    told = placed.told;
  };
}

pub goes_on : (files : List KeptFile) (n next : ℕ) (all rest new : Entries HeldFile) (p : List (List ℕ)) (e fresh : Entry HeldFile) (later : Entries HeldFile) (count more : ℕ) (r s t : DiskState) (a b c : DepotState)
    → n < 2 ^ 32 → AreBefore n (lists_in files) → rest ≡ (p, e) ∷ later → Going files n next all rest new count r s a b
    → Works (is_below n) (is_below n) (bytes_of_all (brought_stamps e)) s t → IsKept b c → Placing (λ written. IsEntryPlaced (stored_in files s) b n e count fresh written) n count more (brought_stamps e) s t
    → Going files n next all later (new ++ (p, fresh) ∷ []) more r t a c
goes_on files n next all rest new p e fresh later count more r s t a b c small before is going works kept placed = record {
  done = going.done ++ (p, e) ∷ [];
  split = here_split all going.done rest (p, e) later going.split is ∙ sym (append_assoc going.done ((p, e) ∷ []) later);
  so_far = placed_then files n next count more going.done ((p, e) ∷ []) new ((p, fresh) ∷ []) r s t a b c small before going.so_far (one_placed files n count more p e fresh s t b c works kept placed);
}

-- what is brought of all: of those before, of the entry, and of those after
brought_here : (all done later : Entries HeldFile) (x : List (List ℕ) × Entry HeldFile) → all ≡ done ++ x ∷ later → brought all ≡ brought done ++ (brought_stamps x.1 ++ brought later)
brought_here all done later x split = ap brought split ∙ brought_both done (x ∷ later)

pub stop_works : (files : List KeptFile) (n next : ℕ) (all rest new : Entries HeldFile) (x : List (List ℕ) × Entry HeldFile) (later : Entries HeldFile) (count : ℕ) (r s t : DiskState) (a b : DepotState)
    → rest ≡ x ∷ later → Going files n next all rest new count r s a b → Works (is_below n) (is_below n) (bytes_of_all (brought_stamps x.1)) s t → Works (is_below n) (is_below n) (bytes_of_all (brought all)) r t
stop_works files n next all rest new x later count r s t a b is going works =
    let parts = brought_here all going.done later x (here_split all going.done rest x later going.split is) in
    works_then (is_below n) (is_below n) (bytes_of_all (brought going.done)) (bytes_of_all (brought_stamps x.1)) (bytes_of_all (brought all)) r s t
    (omega (arith, ap bytes_of_all parts, sum_by-append (λ (k : Stamp). k.size) (brought going.done) (brought_stamps x.1 ++ brought later), sum_by-append (λ (k : Stamp). k.size) (brought_stamps x.1) (brought later)))
    going.so_far.works works

pub stop_only : (files : List KeptFile) (n next : ℕ) (all rest new : Entries HeldFile) (x : List (List ℕ) × Entry HeldFile) (later : Entries HeldFile) (count : ℕ) (r s t : DiskState) (a b : DepotState)
    → rest ≡ x ∷ later → Going files n next all rest new count r s a b → Holds (HasOnlyHomes n (count + length (brought_stamps x.1))) t → Holds (HasOnlyHomes n (next + length (brought all))) t
stop_only files n next all rest new x later count r s t a b is going only =
    let parts = brought_here all going.done later x (here_split all going.done rest x later going.split is) in
    let placed = going.so_far.placed in
    let few = placed.few in
    let fits : count + length (brought_stamps x.1) ≤ next + length (brought all) =
    omega (arith, placed.count, ap length parts, length-append (brought going.done) (brought_stamps x.1 ++ brought later), length-append (brought_stamps x.1) (brought later)) in
    holds_map (HasOnlyHomes n (count + length (brought_stamps x.1))) (HasOnlyHomes n (next + length (brought all))) (λ d has. more_homes n (count + length (brought_stamps x.1)) (next + length (brought all)) d fits has) t.told only

entry_stops : (files : List KeptFile) (n next count : ℕ) (all done later fs : Entries HeldFile) (p : List (List ℕ)) (e : Entry HeldFile) (err : HomesErr) (r s t : DiskState) (a b c : DepotState)
    → n < 2 ^ 32 → AreBefore n (lists_in files) → all ≡ done ++ (p, e) ∷ later → PlacedSoFar files n next done fs count r s a b
    → EntryCause s t b c (stored_in files s) e err → HomesCause r t a c (stored_in files r) n all next err
entry_stops files n next count all done later fs p (Dir attributes) err r s t a b c small before split so_far cause = absurd cause
entry_stops files n next count all done later fs p (Opaque attributes) err r s t a b c small before split so_far cause = absurd cause
entry_stops files n next count all done later fs p (Link owner target) err r s t a b c small before split so_far cause = absurd cause
entry_stops files n next count all done later fs p Hide err r s t a b c small before split so_far cause = absurd cause
entry_stops files n next count all done later fs p (File attributes held) err r s t a b c small before split so_far cause =
    by_error err
    (cause_since Any (stored_in files s) (stored_in files r) b a c r s t held err (alike_before n (bytes_of_all (brought done)) files r s small before so_far.works) (λ body. brought_stays a b body so_far.kept)
    so_far.works.spares.follows.count so_far.kept.count (λ brings. tt) cause)
  where
    stops : (Why : HeldFile → Type 0) → Why held → StopsAt (stored_in files r) a n all next Why
    stops Why why = record {
      before = done;
      after = later;
      path = p;
      attributes = attributes;
      held = held;
      entries = split;
      placed = fs;
      written = so_far.placed.written;
      homes = so_far.placed.homes;
      why = why;
    }

    by_error : (x : HomesErr) → HomeCause r t a c (stored_in files r) held x → HomesCause r t a c (stored_in files r) n all next x
    by_error (Fault OutOfMemory) why = tt
    by_error (Fault DiskFault) why = why
    by_error (Fault DepotFault) why = why
    by_error (Fault (Damaged damage)) why = stops (λ h. HomeCause r t a c (stored_in files r) h (Fault (Damaged damage))) why
    by_error (Mismatch path listed found) why = stops (λ h. HomeCause r t a c (stored_in files r) h (Mismatch path listed found)) why
    by_error (NotInDepot path) why = stops (λ h. HomeCause r t a c (stored_in files r) h (NotInDepot path)) why

pub stop_cause : (files : List KeptFile) (n next : ℕ) (all rest new : Entries HeldFile) (p : List (List ℕ)) (e : Entry HeldFile) (later : Entries HeldFile) (count : ℕ) (err : HomesErr) (r s t : DiskState) (a b c : DepotState)
    → n < 2 ^ 32 → AreBefore n (lists_in files) → rest ≡ (p, e) ∷ later → Going files n next all rest new count r s a b
    → EntryCause s t b c (stored_in files s) e err → HomesCause r t a c (stored_in files r) n all next err
stop_cause files n next all rest new p e later count err r s t a b c small before is going cause =
    entry_stops files n next count all going.done later new p e err r s t a b c small before (here_split all going.done rest (p, e) later going.split is) going.so_far cause

pub going_works : (files : List KeptFile) (n next : ℕ) (all rest new : Entries HeldFile) (count : ℕ) (r s : DiskState) (a b : DepotState)
    → Going files n next all rest new count r s a b → Works (is_below n) (is_below n) (bytes_of_all (brought all)) r s
going_works files n next all rest new count r s a b going =
    works_wider (is_below n) (is_below n) (is_below n) (is_below n) (bytes_of_all (brought going.done)) (bytes_of_all (brought all)) r s
    (let both = bytes_both going.done rest in omega (arith, ap (λ l. bytes_of_all (brought l)) going.split)) (λ p out. out) (λ p out. out) going.so_far.works

pub going_only : (files : List KeptFile) (n next : ℕ) (all rest new : Entries HeldFile) (count : ℕ) (r s : DiskState) (a b : DepotState)
    → Going files n next all rest new count r s a b → Holds (HasOnlyHomes n (next + length (brought all))) s
going_only files n next all rest new count r s a b going =
    let placed = going.so_far.placed in
    let few = placed.few in
    let fits : count ≤ next + length (brought all) =
    omega (arith, placed.count, ap (λ l. length (brought l)) going.split, ap length (brought_both going.done rest), length-append (brought going.done) (brought rest)) in
    holds_map (HasHomes n count) (HasOnlyHomes n (next + length (brought all))) (λ d has. more_homes n count (next + length (brought all)) d fits has.only) s.told
    (homes_so_far files n next all rest new count r s a b going)

-- where nothing is to come, all have their homes
pub all_placed : (files : List KeptFile) (n next : ℕ) (all rest new : Entries HeldFile) (count : ℕ) (r s : DiskState) (a b : DepotState) → rest ≡ []
    → Going files n next all rest new count r s a b → PlacedSoFar files n next all new count r s a b
all_placed files n next all rest new count r s a b none going =
    subst (λ l. PlacedSoFar files n next l new count r s a b) (sym (going.split ∙ ap (λ l. going.done ++ l) none ∙ append-nil going.done)) going.so_far

pub root_works : (n : ℕ) (root lower : Entries HeldFile) (r s : DiskState) → Works (is_below n) (is_below n) (bytes_of_all (brought root)) r s → Works (is_below n) (is_below n) (bytes_of_all (brought (root ++ lower))) r s
root_works n root lower r s works =
    works_wider (is_below n) (is_below n) (is_below n) (is_below n) (bytes_of_all (brought root)) (bytes_of_all (brought (root ++ lower))) r s
    (let both = bytes_both root lower in omega arith) (λ p out. out) (λ p out. out) works

pub root_only : (n : ℕ) (root lower : Entries HeldFile) (s : DiskState) → Holds (HasOnlyHomes n (0 + length (brought root))) s → Holds (HasOnlyHomes n (length (brought (root ++ lower)))) s
root_only n root lower s only =
    holds_map (HasOnlyHomes n (0 + length (brought root))) (HasOnlyHomes n (length (brought (root ++ lower))))
    (λ d has. more_homes n (0 + length (brought root)) (length (brought (root ++ lower))) d (omega (arith, ap length (brought_both root lower), length-append (brought root) (brought lower))) has) s.told only

pub lower_works : (n : ℕ) (root lower : Entries HeldFile) (r s t : DiskState) → Works (is_below n) (is_below n) (bytes_of_all (brought root)) r s → Works (is_below n) (is_below n) (bytes_of_all (brought lower)) s t
    → Works (is_below n) (is_below n) (bytes_of_all (brought (root ++ lower))) r t
lower_works n root lower r s t one two =
    works_then (is_below n) (is_below n) (bytes_of_all (brought root)) (bytes_of_all (brought lower)) (bytes_of_all (brought (root ++ lower))) r s t (bytes_both root lower) one two

-- no more files are written than are brought
pub few_files : (Homes : List (List ℕ) → Type 0) (n count : ℕ) (es : Entries HeldFile) (r s : DiskState) → Placing Homes n 0 count (brought es) r s → count ≤ length (brought es)
few_files Homes n count es r s placed = let few = placed.few in omega (arith, placed.count)

pub lower_only : (n mid : ℕ) (root lower : Entries HeldFile) (s : DiskState) → mid ≤ length (brought root) → Holds (HasOnlyHomes n (mid + length (brought lower))) s → Holds (HasOnlyHomes n (length (brought (root ++ lower)))) s
lower_only n mid root lower s few only =
    holds_map (HasOnlyHomes n (mid + length (brought lower))) (HasOnlyHomes n (length (brought (root ++ lower))))
    (λ d has. more_homes n (mid + length (brought lower)) (length (brought (root ++ lower))) d (omega (arith, ap length (brought_both root lower), length-append (brought root) (brought lower))) has) s.told only

pub lower_cause : (files : List KeptFile) (n mid : ℕ) (root lower new_root : Entries HeldFile) (err : HomesErr) (r s t : DiskState) (a b c : DepotState) → n < 2 ^ 32 → AreBefore n (lists_in files)
    → PlacedSoFar files n 0 root new_root mid r s a b → HomesCause s t b c (stored_in files s) n lower mid err → HomesCause r t a c (stored_in files r) n (root ++ lower) 0 err
lower_cause files n mid root lower new_root err r s t a b c small before so_far cause =
    cause_after r t a c (stored_in files r) n root lower 0 mid new_root so_far.placed.written err so_far.placed.count so_far.placed.homes
    (homes_cause_since Any (stored_in files s) (stored_in files r) b a c r s t n lower mid err (alike_before n (bytes_of_all (brought root)) files r s small before so_far.works) (λ body. brought_stays a b body so_far.kept)
    (all_any lower) so_far.works.spares.follows.count so_far.kept.count cause)

pub both_placed : (files : List KeptFile) (n mid count : ℕ) (root lower new_root new_lower : Entries HeldFile) (r s t : DiskState) (a b c : DepotState) → n < 2 ^ 32 → AreBefore n (lists_in files)
    → PlacedSoFar files n 0 root new_root mid r s a b → PlacedSoFar files n mid lower new_lower count s t b c
    → Placing (λ written. AreBothPlaced (stored_in files r) a n root lower 0 new_root new_lower written) n 0 count (brought (root ++ lower)) r t
unfolding placed_then
both_placed files n mid count root lower new_root new_lower r s t a b c small before one two =
    let alike = alike_before n (bytes_of_all (brought root)) files r s small before one.works in
    let all = placed_then files n 0 mid count root lower new_root new_lower r s t a b c small before one two in
    record {
      written = one.placed.written ++ two.placed.written;
      homes = (
        one.placed.written,
        two.placed.written,
        one.placed.homes,
        subst (λ i. ArePlaced (stored_in files r) a n lower i new_lower two.placed.written) one.placed.count
            (entries_alike Any (stored_in files s) (stored_in files r) b a n lower mid new_lower two.placed.written alike (λ body. brought_stays a b body one.kept) (all_any lower) two.placed.homes),
        refl,
      );
      count = all.placed.count;
      few = all.placed.few;
      told = all.placed.told;
    }

pub tree_so_far : (files : List KeptFile) (n next count : ℕ) (es fs : Entries HeldFile) (r s : DiskState) (a b : DepotState) → Works (is_below n) (is_below n) (bytes_of_all (brought es)) r s → IsKept a b
    → Placing (λ written. ArePlaced (stored_in files r) a n es next fs written) n next count (brought es) r s → PlacedSoFar files n next es fs count r s a b
tree_so_far files n next count es fs r s a b works kept placed = record { works = works; kept = kept; placed = placed }

-- the homes of the files that are written
pub so_far_homes : (Homes : List (List ℕ) → Type 0) (n next count : ℕ) (stamps : List Stamp) (r s : DiskState) → Placing Homes n next count stamps r s → Holds (HasHomes n count) s
so_far_homes Homes n next count stamps r s placed = subst (λ i. Holds (HasHomes n i) s) (sym placed.count) (told_homes n next placed.written r.told s.told placed.told)
