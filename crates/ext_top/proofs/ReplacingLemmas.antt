-- A host is put in place of the one that the store has: what the preparation and the switch leave together.
use Rattle.std.proofs.Common.{◌≡◌, ℕ, zero, suc, ◌+◌, ◌<◌, false, List, [], ◌∷◌, ◌++◌, inl, inr, Option, Some, None, IfSome, Result, Ok, Err, refl, sym, ap, ◌∙◌, subst, arith}
use Rattle.std.specs.Prelude.{◌⊎◌, Contains}
use Rattle.std.specs.List.{AllByRecursion}
use Rattle.ext_io.specs.declared.failed.Failed.{Failed}
use Rattle.ext_depot.specs.Depot.{DepotState, Files}
use Rattle.ext_disk.specs.Disk.{Places, Told, DiskState, BothTold, now}
use Rattle.ext_disk.specs.Since.{IsLater}
use Rattle.ext_tree.specs.Tree.{Entries}
use Rattle.ext_host.specs.Drawn.{AreDrawnFrom, IsFileOf, trees_of}
use Rattle.ext_host.specs.Held.{HeldFile}
use Rattle.ext_host.specs.declared.body.Body.{Body}
use Rattle.ext_host.specs.declared.body.Body.TheVariants.{Here, Kept, Depot}
use Rattle.ext_host.specs.declared.host.Host.{Host}
use Rattle.ext_host.specs.declared.past.Past.{Past}
use Rattle.ext_store_files.specs.Removal.{MoreThan}
use Rattle.ext_store_files.specs.declared.fault.StoreFault.TheVariants as store_faults
use Rattle.ext_store_files.specs.declared.fault.StoreFault.TheVariants.{OutOfMemory, DiskFault, DepotFault, Damaged}
use Rattle.ext_store_files.specs.LeftOvers.{most_left_overs}
use Rattle.ext_store_files.specs.Copying.{IsMissing, IsReadStamp}
use Rattle.ext_homes.specs.Brought.{is_brought}
use Rattle.ext_homes.specs.Giving.{lists_kept, stored_by, trees_before}
use Rattle.ext_homes.specs.Refused.{StopsAt}
use Rattle.ext_index.specs.ValidIndex.{IsKeptUpTo}
use Rattle.ext_gen.specs.Opened.{Generation, IsOpened}
use Rattle.ext_gen.specs.Committing.{CommitEnds, CommitsTold, IsOneOf, IsPrepared, MayCommit}
use Rattle.ext_gen.specs.Preparing.{ArePastBefore, BringNone, LimitSays, PrepareCause, Prepares, PreparesTold, coming_number, contents_after, host_before, is_left, limit_of, trees_of_pasts}
use Rattle.ext_gen.specs.PreparingPaths.{Cleans, CleansSays}
use Rattle.ext_gen.specs.Store.{State, at, Stands, generation_in}
use Rattle.ext_gen.specs.Sound.{IsDurably, KeepsDurably}
use Rattle.ext_gen.specs.declared.errors.StoreErr.{StoreErr}
use Rattle.ext_gen.specs.declared.errors.StoreErr.TheVariants as store_errors
use Rattle.ext_gen.proofs.ForCallers.{opened_is_valid_for, stands_since_then, stands_since_wider}
use Rattle.ext_cmd.specs.declared.refusal.Refusal.{Refusal}
use Rattle.ext_intents.specs.Intents.{ArePasts, IsPlanned, MayBePast, marks, stays}
use Rattle.ext_top.specs.Applying.{AppliesEnds, AppliesTold, ApplyCause, IsOfPreparing, IsPassed, refusal_from}
use Rattle.ext_top.specs.Machine.{depot_of, IsMismatch, IsNextState, IsNotThere, Outcome, Replaces, RefusesNext, gives, refuses, state_after, stored_of}
use Rattle.ext_top.specs.declared.applied.Applied.{Applied}
use Rattle.ext_top.specs.declared.applied.Reply.TheVariants.{Text, Refused}
use Rattle.ext_top.specs.declared.apply_err.ApplyErr.{ApplyErr}
use Rattle.ext_top.specs.declared.apply_err.ApplyErr.TheVariants.{Fault, Unfinished}
use Rattle.ext_top.proofs.ApplyingLemmas.{trees_alike}
use Rattle.ext_top.proofs.PlacedLemmas.{host_alike, stops_alike}
use Rattle.ext_top.proofs.StoredLemmas.{alike_stored, depot_alike, none_damaged, of_no_tree}

-- the plan is drawn from the host before
pub planned_is_drawn : (from : Option Generation) (next : Host) → IsPlanned (coming_number from) (host_before from) next → AreDrawnFrom (trees_before (host_before from)) (trees_of next)
planned_is_drawn from next planned = subst (λ trees. AreDrawnFrom trees (trees_of next)) (trees_alike from) planned.drawn

kept_brings_none : (n : ℕ) (body : Body) → IsKeptUpTo n body → is_brought body ≡ false
kept_brings_none n (Here bytes) kept = absurd kept
kept_brings_none n (Kept home) kept = refl
kept_brings_none n (Depot path) kept = absurd kept

among_more : (a b : Entries HeldFile) (trees : List (Entries HeldFile)) (tree : Entries HeldFile) → Contains trees tree → Contains (a ∷ b ∷ trees) tree
among_more a b trees tree (k, lt, is) = (suc (suc k), omega arith, is)

more_of : {X : Type 0} (x : X) (xs : List X) (y : X) → Contains xs y → Contains (x ∷ xs) y
more_of x xs y (k, lt, is) = (suc k, omega arith, is)

pub root_among : (pasts : List Past) (past : Past) → Contains pasts past → Contains (trees_of_pasts pasts) past.root
root_among [] past (k, lt, is) = absurd (omega arith)
root_among (p ∷ pasts) past (zero, lt, is) = (zero, omega arith, ap (λ (x : Past). x.root) is)
root_among (p ∷ pasts) past (suc k, lt, is) =
    among_more p.root p.lower (trees_of_pasts pasts) past.root (root_among pasts past (k, omega arith, is))

pub lower_among : (pasts : List Past) (past : Past) → Contains pasts past → Contains (trees_of_pasts pasts) past.lower
lower_among [] past (k, lt, is) = absurd (omega arith)
lower_among (p ∷ pasts) past (zero, lt, is) = (suc zero, omega arith, ap (λ (x : Past). x.lower) is)
lower_among (p ∷ pasts) past (suc k, lt, is) =
    among_more p.root p.lower (trees_of_pasts pasts) past.lower (lower_among pasts past (k, omega arith, is))

-- a tree of past trees is one of some past
abbrev OneOf : List Past → Entries HeldFile → Type 0
OneOf pasts tree = (past : Past) × Contains pasts past × ((tree ≡ past.root) ⊎ (tree ≡ past.lower))

one_of : (pasts : List Past) (tree : Entries HeldFile) → Contains (trees_of_pasts pasts) tree → OneOf pasts tree
one_of [] tree (k, lt, is) = absurd (omega arith)
one_of (p ∷ pasts) tree (zero, lt, is) = (p, (zero, omega arith, refl), inl (sym is))
one_of (p ∷ pasts) tree (suc zero, lt, is) = (p, (zero, omega arith, refl), inr (sym is))
one_of (p ∷ pasts) tree (suc (suc k), lt, is) =
    let rest = one_of pasts tree (k, omega arith, is) in
    (rest.0, more_of p pasts rest.0 rest.1, rest.2)

-- the trees of what may be a past tree are the host's
host_among : (coming : ℕ) (host : Host) (past : Past) (tree : Entries HeldFile) → MayBePast coming host past → (tree ≡ past.root) ⊎ (tree ≡ past.lower) → Contains (trees_of host) tree
host_among coming host past tree (stays has) (inl is) =
    among_more host.root host.lower (trees_of_pasts host.past) tree (subst (Contains (trees_of_pasts host.past)) (sym is) (root_among host.past past has))
host_among coming host past tree (stays has) (inr is) =
    among_more host.root host.lower (trees_of_pasts host.past) tree (subst (Contains (trees_of_pasts host.past)) (sym is) (lower_among host.past past has))
host_among coming host past tree (marks number root lower) (inl is) = (zero, omega arith, sym (is ∙ root))
host_among coming host past tree (marks number root lower) (inr is) = (suc zero, omega arith, sym (is ∙ lower))

pub of_past : (coming : ℕ) (host : Host) (pasts : List Past) (held : HeldFile) → ArePasts coming (Some host) pasts → IsFileOf (trees_of_pasts pasts) held → IsFileOf (trees_of host) held
of_past coming host pasts held are file =
    let of = one_of pasts file.tree file.among in
    record { tree = file.tree; among = host_among coming host of.0 file.tree (are of.0 of.1) of.2; file = file.file }

-- what stays of the past brings no files
past_brings_none : (from : Option Generation) (pasts : List Past) → IfSome from IsOpened → ArePasts (coming_number from) (host_before from) pasts → BringNone (trees_of_pasts pasts)
past_brings_none None pasts opened none held file = absurd (of_no_tree held (subst (λ past. IsFileOf (trees_of_pasts past) held) none file))
past_brings_none (Some g) pasts opened are held file =
    kept_brings_none g.number held.body ((opened_is_valid_for g opened).kept held (of_past (g.number + 1) g.host pasts held are file))

pub planned_brings_none : (from : Option Generation) (next : Host) → IfSome from IsOpened → IsPlanned (coming_number from) (host_before from) next → BringNone (trees_of_pasts next.past)
planned_brings_none from next opened planned = past_brings_none from next.past opened planned.past

at_contained : (P : Past → Type 0) (pasts : List Past) (past : Past) → AllByRecursion P pasts → Contains pasts past → P past
at_contained P [] past all (k, lt, is) = absurd (omega arith)
at_contained P (p ∷ pasts) past all (zero, lt, is) = subst P is all.0
at_contained P (p ∷ pasts) past all (suc k, lt, is) = at_contained P pasts past all.1 (k, omega arith, is)

all_contained : (P : Past → Type 0) (pasts : List Past) → ((past : Past) → Contains pasts past → P past) → AllByRecursion P pasts
all_contained P [] each = tt
all_contained P (p ∷ pasts) each = (each p (zero, omega arith, refl), all_contained P pasts (λ past has. each past (more_of p pasts past has)))

-- and its generations come before the coming one
one_before : (g : Generation) (past : Past) → IsOpened g → MayBePast (g.number + 1) g.host past → (0 < past.generation) × (past.generation < g.number + 1)
one_before g past opened (stays has) =
    let one = at_contained (λ p. (0 < p.generation) × (p.generation < g.number)) g.host.past past (opened_is_valid_for g opened).past has in
    let less = one.1 in
    (one.0, omega arith)
one_before g past opened (marks number root lower) =
    let some = opened.number.0 in
    (omega arith, omega arith)

past_is_before : (from : Option Generation) (pasts : List Past) → IfSome from IsOpened → ArePasts (coming_number from) (host_before from) pasts → ArePastBefore (coming_number from) pasts
past_is_before None pasts opened none = subst (ArePastBefore 1) (sym none) tt
past_is_before (Some g) pasts opened are = all_contained (λ p. (0 < p.generation) × (p.generation < g.number + 1)) pasts (λ past has. one_before g past opened (are past has))

pub planned_is_before : (from : Option Generation) (next : Host) → IfSome from IsOpened → IsPlanned (coming_number from) (host_before from) next → ArePastBefore (coming_number from) next.past
planned_is_before from next opened planned = past_is_before from next.past opened planned.past

-- what is prepared may be switched to
prepared_told : (from : Option Generation) (coming : Generation) (written : List (List ℕ)) (x y : Option Told) → BothTold (PreparesTold from coming written) x y → IfSome y (λ d. IsPrepared coming d.places)
prepared_told from coming written None None told = tt
prepared_told from coming written None (Some e) told = absurd told
prepared_told from coming written (Some d) None told = absurd told
prepared_told from coming written (Some d) (Some e) told = told.prepared

pub prepared_may_commit : (from : Option Generation) (next : Host) (old new : DiskState) (depot : DepotState) (coming : Generation) → Prepares from next old new depot coming → MayCommit coming new
prepared_may_commit from next old new depot coming prepares = prepared_told from coming prepares.written old.told new.told prepares.told

-- the answer, by how the switch ended
abbrev pub switched : Generation → List ℕ → Result Generation Failed → Result Applied ApplyErr
switched coming reply (Ok done) = Ok (record { opened = Some coming; reply = Text reply })
switched coming reply (Err failed) = Err (Fault DiskFault)

one_passed : (P : Outcome → Type 0) (s u x : State) (outcome : Outcome) → P outcome → u ≡ state_after s outcome → IsOneOf s u x → IsPassed P s x
one_passed P s u x outcome of is (inl before) = inl before
one_passed P s u x outcome of is (inr after) = inr (outcome, of, after ∙ is)

next_of : (s : State) (from : Option Generation) (next : Host) (d : Told) (old new : DiskState) (depot : DepotState) (coming : Generation) → generation_in s ≡ from → old.told ≡ Some d → Stands (now d.places) s
    → (prepares : Prepares from next old new depot coming) → IsNextState s depot.contents next (at coming (contents_after coming.number prepares.written s))
next_of s from next d old new depot coming is told stands prepares = record {
  coming = coming;
  number = prepares.number ∙ ap coming_number (sym is);
  text = prepares.text;
  written = prepares.written;
  homes = host_alike (stored_by (host_before from) old) (stored_of s) depot (depot_of depot.contents) (alike_stored s from d old depot is told stands) coming.number next coming.host prepares.written prepares.homes;
  is = refl;
}

switched_ends : (P : Outcome → Type 0) (s u : State) (coming : Generation) (reply : List ℕ) (result : Result Generation Failed) (e : Places) → generation_in u ≡ Some coming → P (gives u reply) → CommitEnds result s u e
    → AppliesEnds P s (switched coming reply result) e
switched_ends P s u coming reply (Ok done) e is of durably = (gives u reply, of, record { opened = sym is; reply = (u, refl) }, durably)
switched_ends P s u coming reply (Err failed) e is of either = inr (gives u reply, of, either)

switched_told : (next : Host) (reply : List ℕ) (from : Option Generation) (coming : Generation) (depot : DepotState) (old mid : DiskState) (result : Result Generation Failed) (x y z : Option Told)
    → limit_of from next ≡ None → old.told ≡ x → (prepares : Prepares from next old mid depot coming) → BothTold (PreparesTold from coming prepares.written) x y → BothTold KeepsDurably x y
    → BothTold IsLater y z → BothTold (CommitsTold result) y z → BothTold (AppliesTold (λ s. Replaces s depot.contents next reply) from (switched coming reply result)) x z
switched_told next reply from coming depot old mid result None None None few told prepares prepared kept later commits = tt
switched_told next reply from coming depot old mid result None None (Some f) few told prepares prepared kept later commits = absurd later
switched_told next reply from coming depot old mid result None (Some e) z few told prepares prepared kept later commits = absurd kept
switched_told next reply from coming depot old mid result (Some d) None z few told prepares prepared kept later commits = absurd kept
switched_told next reply from coming depot old mid result (Some d) (Some e) None few told prepares prepared kept later commits = absurd later
switched_told next reply from coming depot old mid result (Some d) (Some e) (Some f) few told prepares prepared kept later commits = λ s is durably.
    let P = Replaces s depot.contents next reply in
    let u = at coming (contents_after coming.number prepares.written s) in
    let outcome = gives u reply in
    let of : P outcome = inl (u, ap (λ o. limit_of o next) is ∙ few, next_of s from next d old mid depot coming is told durably.stands prepares, refl) in
    let ends = commits s u (prepared.ready s durably) in
    record {
      ends = switched_ends P s u coming reply result f.places refl of ends.0;
      since = stands_since_then (IsPassed P s) e f d.clock later
          (stands_since_wider (λ x. x ≡ s) (IsPassed P s) e d.clock (λ x same. inl same) (kept s durably).1)
          (stands_since_wider (IsOneOf s u) (IsPassed P s) f e.clock (λ x one. one_passed P s u x outcome of refl one) ends.1);
    }

pub switched_applies : (next : Host) (reply : List ℕ) (from : Option Generation) (coming : Generation) (depot : DepotState) (old mid new : DiskState) (result : Result Generation Failed)
    → limit_of from next ≡ None → Prepares from next old mid depot coming → BothTold KeepsDurably old.told mid.told
    → BothTold IsLater mid.told new.told → BothTold (CommitsTold result) mid.told new.told → BothTold (AppliesTold (λ s. Replaces s depot.contents next reply) from (switched coming reply result)) old.told new.told
switched_applies next reply from coming depot old mid new result few prepares kept later commits =
    switched_told next reply from coming depot old mid result old.told mid.told new.told few refl prepares prepares.told kept later commits

-- the answer, by the error of the preparation
abbrev pub unprepared : Option Generation → Result Refusal ApplyErr → Result Applied ApplyErr
unprepared from (Ok refusal) = Ok (record { opened = from; reply = Refused refusal })
unprepared from (Err e) = Err e

-- why a refusal is one of the machine's
abbrev Refuted : State → Option Files → Host → Result Refusal ApplyErr → Type 0
Refuted s files next (Ok refusal) = RefusesNext s files next refusal
Refuted s files next (Err (Fault DiskFault)) = Unit {0}
Refuted s files next (Err (Fault DepotFault)) = Unit {0}
Refuted s files next (Err (Fault (Damaged damage))) = ⊥
Refuted s files next (Err Unfinished) = Unit {0}
Refuted s files next (Err (Fault OutOfMemory)) = Unit {0}

refuted : (s : State) (from : Option Generation) (next : Host) (d : Told) (old new : DiskState) (depot after : DepotState) (error : StoreErr) → generation_in s ≡ from → old.told ≡ Some d → Stands (now d.places) s
    → LimitSays {T = Generation} (limit_of from next) (Err error) → PrepareCause from next old new depot after error → Refuted s depot.contents next (refusal_from error)
refuted s from next d old new depot after (store_errors.Fault store_faults.OutOfMemory) is told stands limit cause = tt
refuted s from next d old new depot after (store_errors.Fault store_faults.DiskFault) is told stands limit cause = tt
refuted s from next d old new depot after (store_errors.Fault store_faults.DepotFault) is told stands limit cause = tt
refuted s from next d old new depot after (store_errors.Broken line) is told stands limit cause = tt
refuted s from next d old new depot after (store_errors.Fault (store_faults.Damaged damage)) is told stands limit cause =
    let trees : trees_before (host_before from) ≡ trees_before (host_before (generation_in s)) = ap (λ o. trees_before (host_before o)) (sym is) in
    none_damaged s d old told stands damage.listed damage.home damage.found (subst (λ ts. lists_kept ts damage.listed damage.home) trees cause.why.2.listed) cause.why.2.differs
refuted s from next d old new depot after (store_errors.Mismatch path listed found) is told stands limit cause =
    let here = depot_of depot.contents in (
      ap (λ o. limit_of o next) is ∙ limit,
      subst (λ n. StopsAt (stored_of s) here n (next.root ++ next.lower) 0 (IsMismatch here path listed found)) (ap coming_number (sym is))
          (stops_alike (stored_by (host_before from) old) (stored_of s) depot here (alike_stored s from d old depot is told stands) (coming_number from) (next.root ++ next.lower) _ (IsMismatch here path listed found)
          (λ held why. record { body = why.0; stamp = why.1; read = subst (λ t. IsReadStamp t listed found) (depot_alike depot here refl held.body) why.3 }) cause),
    )
refuted s from next d old new depot after (store_errors.NotInDepot path) is told stands limit cause =
    let here = depot_of depot.contents in (
      ap (λ o. limit_of o next) is ∙ limit,
      subst (λ n. StopsAt (stored_of s) here n (next.root ++ next.lower) 0 (IsNotThere here path)) (ap coming_number (sym is))
          (stops_alike (stored_by (host_before from) old) (stored_of s) depot here (alike_stored s from d old depot is told stands) (coming_number from) (next.root ++ next.lower) _ (IsNotThere here path)
          (λ held why. record { body = why.0; missing = subst IsMissing (depot_alike depot here refl held.body) why.2 }) cause),
    )
refuted s from next d old new depot after store_errors.Unfinished is told stands limit cause = tt
refuted s from next d old new depot after (store_errors.Limit which) is told stands limit cause = ap (λ o. limit_of o next) is ∙ limit

unprepared_ends : (s : State) (from : Option Generation) (next : Host) (depot : DepotState) (reply : List ℕ) (result : Result Refusal ApplyErr) (e : Places) → generation_in s ≡ from → Refuted s depot.contents next result → IsDurably s e
    → AppliesEnds (Replaces s depot.contents next reply) s (unprepared from result) e
unprepared_ends s from next depot reply (Ok refusal) e is why durably = (refuses refusal, inr (refusal, why, refl), record { opened = sym is; reply = refl }, durably)
unprepared_ends s from next depot reply (Err (Fault DiskFault)) e is why durably = inl durably
unprepared_ends s from next depot reply (Err (Fault DepotFault)) e is why durably = durably
unprepared_ends s from next depot reply (Err (Fault (Damaged damage))) e is why durably = absurd why
unprepared_ends s from next depot reply (Err Unfinished) e is why durably = durably
unprepared_ends s from next depot reply (Err (Fault OutOfMemory)) e is why durably = durably

unprepared_told : (next : Host) (reply : List ℕ) (from : Option Generation) (depot after : DepotState) (old new : DiskState) (error : StoreErr) (x y : Option Told) → old.told ≡ x
    → LimitSays {T = Generation} (limit_of from next) (Err error) → PrepareCause from next old new depot after error → BothTold KeepsDurably x y
    → BothTold (AppliesTold (λ s. Replaces s depot.contents next reply) from (unprepared from (refusal_from error))) x y
unprepared_told next reply from depot after old new error None None told limit cause kept = tt
unprepared_told next reply from depot after old new error None (Some e) told limit cause kept = absurd kept
unprepared_told next reply from depot after old new error (Some d) None told limit cause kept = absurd kept
unprepared_told next reply from depot after old new error (Some d) (Some e) told limit cause kept = λ s is durably.
    let P = Replaces s depot.contents next reply in
    let still = kept s durably in
    record {
      ends = unprepared_ends s from next depot reply (refusal_from error) e.places is (refuted s from next d old new depot after error is told durably.stands limit cause) still.0;
      since = stands_since_wider (λ x. x ≡ s) (IsPassed P s) e d.clock (λ x same. inl same) still.1;
    }

pub unprepared_applies : (next : Host) (reply : List ℕ) (from : Option Generation) (depot after : DepotState) (old new : DiskState) (error : StoreErr)
    → LimitSays {T = Generation} (limit_of from next) (Err error) → PrepareCause from next old new depot after error → BothTold KeepsDurably old.told new.told
    → BothTold (AppliesTold (λ s. Replaces s depot.contents next reply) from (unprepared from (refusal_from error))) old.told new.told
unprepared_applies next reply from depot after old new error limit cause kept = unprepared_told next reply from depot after old new error old.told new.told refl limit cause kept

-- an error of a preparation
pub is_of_preparing : (from : Option Generation) (next : Host) (old new : DiskState) (depot after : DepotState) (error : StoreErr) → PrepareCause from next old new depot after error → IsOfPreparing error
is_of_preparing from next old new depot after (store_errors.Fault store_faults.OutOfMemory) cause = tt
is_of_preparing from next old new depot after (store_errors.Fault store_faults.DiskFault) cause = tt
is_of_preparing from next old new depot after (store_errors.Fault store_faults.DepotFault) cause = tt
is_of_preparing from next old new depot after (store_errors.Broken line) cause = cause
is_of_preparing from next old new depot after (store_errors.Fault (store_faults.Damaged damage)) cause = tt
is_of_preparing from next old new depot after (store_errors.Mismatch path listed found) cause = tt
is_of_preparing from next old new depot after (store_errors.NotInDepot path) cause = tt
is_of_preparing from next old new depot after store_errors.Unfinished cause = tt
is_of_preparing from next old new depot after (store_errors.Limit which) cause = tt

too_many_left_overs : (from : Option Generation) (x y : Option Told) → BothTold (λ d e. CleansSays {T = Generation} (is_left from) (Err store_errors.Unfinished) d.places e.places) x y → IfSome x (λ d. MoreThan most_left_overs (is_left from) d.places)
too_many_left_overs from None None cleans = tt
too_many_left_overs from None (Some e) cleans = absurd cleans
too_many_left_overs from (Some d) None cleans = absurd cleans
too_many_left_overs from (Some d) (Some e) cleans = cleans.0

abbrev pub CauseOf : Option Generation → DiskState → DiskState → DepotState → DepotState → Result Refusal ApplyErr → Type 0
CauseOf from old new depot after (Ok refusal) = Unit {0}
CauseOf from old new depot after (Err e) = ApplyCause from old new depot after e

-- why it was not carried out
pub unprepared_cause : (from : Option Generation) (next : Host) (old new : DiskState) (depot after : DepotState) (error : StoreErr) → Cleans {T = Generation} (is_left from) (Err error) old new → PrepareCause from next old new depot after error
    → CauseOf from old new depot after (refusal_from error)
unprepared_cause from next old new depot after (store_errors.Fault store_faults.OutOfMemory) cleans cause = tt
unprepared_cause from next old new depot after (store_errors.Fault store_faults.DiskFault) cleans cause = cause
unprepared_cause from next old new depot after (store_errors.Fault store_faults.DepotFault) cleans cause = cause
unprepared_cause from next old new depot after (store_errors.Broken line) cleans cause = tt
unprepared_cause from next old new depot after (store_errors.Fault (store_faults.Damaged damage)) cleans cause = record { lists = cause.why.2.listed; differs = cause.why.2.differs }
unprepared_cause from next old new depot after (store_errors.Mismatch path listed found) cleans cause = tt
unprepared_cause from next old new depot after (store_errors.NotInDepot path) cleans cause = tt
unprepared_cause from next old new depot after store_errors.Unfinished cleans cause = too_many_left_overs from old.told new.told cleans
unprepared_cause from next old new depot after (store_errors.Limit which) cleans cause = tt

-- the reply is the text of an answer
pub answered_replaces : (files : Option Files) (next : Host) (reply text : List ℕ) (from : Option Generation) (result : Result Applied ApplyErr) (x y : Option Told) → reply ≡ text
    → BothTold (AppliesTold (λ s. Replaces s files next reply) from result) x y → BothTold (AppliesTold (λ s. Replaces s files next text) from result) x y
answered_replaces files next reply text from result x y is replaces = subst (λ line. BothTold (AppliesTold (λ s. Replaces s files next line) from result) x y) is replaces
