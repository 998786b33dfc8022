-- What a store has, told by two disks alike and listed alike: each file has its home by the one as by the other.
use Rattle.std.proofs.Common.{◌≡◌, ℕ, ◌+◌, ◌≤◌, Bool, true, false, Option, List, [], ◌∷◌, ◌++◌, length, refl, sym, ap, ◌∙◌, subst, inl, inr, arith, append_assoc, length-append}
use Rattle.ext_text.proofs.ForCallers.{all_back, all_prefix}
use Rattle.ext_disk.specs.Disk.{DiskState}
use Rattle.ext_depot.specs.Depot.{DepotState}
use Rattle.ext_tree.specs.Tree.{Entries}
use Rattle.ext_tree.specs.declared.entry.Entry.{Entry}
use Rattle.ext_tree.specs.declared.entry.Entry.TheVariants.{Dir, Opaque, File, Link, Hide}
use Rattle.ext_tree.specs.declared.stamp.Stamp.{Stamp}
use Rattle.ext_host.specs.Held.{HeldFile}
use Rattle.ext_host.specs.Shelf as shelf
use Rattle.ext_host.specs.Shelf.{IsFound, IsTold}
use Rattle.ext_host.specs.declared.body.Body.{Body}
use Rattle.ext_host.specs.declared.body.Body.TheVariants.{Here, Kept, Depot}
use Rattle.ext_host.specs.declared.home.Home.{Home}
use Rattle.ext_store_files.specs.Comparing.{IsCompared}
use Rattle.ext_store_files.specs.Copying.{IsMissing, IsReadStamp}
use Rattle.ext_store_files.specs.HeldFiles.{IsListed}
use Rattle.ext_store_files.proofs.ForCallers.{rose_since}
use Rattle.ext_homes.specs.Brought.{is_brought}
use Rattle.ext_homes.specs.Placed.{Stored, ArePlaced, DifferBefore, HasNone, IsBodyPlaced, IsBroughtTo, IsEntryPlaced, IsLeastHome, TakesHome, brought_told}
use Rattle.ext_homes.specs.Refused.{HomeCause, HomesCause, IsDamaged, IsFirstIntact, StopsAt}
use Rattle.ext_homes.specs.Sought.{AreAmong, BringsAmong, EntryAmong}
use Rattle.ext_homes.specs.declared.errors.HomesErr.{HomesErr}
use Rattle.ext_store_files.specs.declared.fault.StoreFault.TheVariants.{OutOfMemory, DiskFault, DepotFault, Damaged}
use Rattle.ext_homes.specs.declared.errors.HomesErr.TheVariants.{Fault, Mismatch, NotInDepot}

-- of some stamps the store lists the same homes, and the same is told of each of them
pub record IsAlike (Among : Stamp → Type 0) (one two : Stored) : Type 0 where
  pub gives : (stamp : Stamp) (home : Home) → Among stamp → one.lists stamp home → two.lists stamp home
  pub takes : (stamp : Stamp) (home : Home) → Among stamp → two.lists stamp home → one.lists stamp home
  pub tells : (stamp : Stamp) (home : Home) → Among stamp → one.lists stamp home → one.told home ≡ two.told home

-- any stamp is among all
abbrev pub Any : Stamp → Type 0
Any stamp = Unit {0}

entry_any : (e : Entry HeldFile) → EntryAmong Any e
entry_any (Dir attributes) = tt
entry_any (Opaque attributes) = tt
entry_any (File attributes held) = λ brings. tt
entry_any (Link owner target) = tt
entry_any Hide = tt

pub all_any : (es : Entries HeldFile) → AreAmong Any es
all_any [] = tt
all_any (e ∷ es) = (entry_any e.1, all_any es)

-- two depots tell the same of each path
abbrev pub AreAlike : DepotState → DepotState → Type 0
AreAlike x y = (body : Body) → brought_told x body ≡ brought_told y body

compared : (Among : Stamp → Type 0) (one two : Stored) (stamp : Stamp) (home : Home) (b : shelf.Told) → (same : Bool) → IsAlike Among one two → Among stamp → one.lists stamp home
    → IsCompared (one.told home) b stamp same → IsCompared (two.told home) b stamp same
compared Among one two stamp home b same alike among lists is = subst (λ t. IsCompared t b stamp same) (alike.tells stamp home among lists) is

differ : (Among : Stamp → Type 0) (one two : Stored) (stamp : Stamp) (b : shelf.Told) (home : Home) → IsAlike Among one two → Among stamp → DifferBefore one stamp b home → DifferBefore two stamp b home
differ Among one two stamp b home alike among before other listed less =
    let lists = alike.takes stamp other among listed in compared Among one two stamp other b false alike among lists (before other lists less)

least : (Among : Stamp → Type 0) (one two : Stored) (stamp : Stamp) (b : shelf.Told) (home : Home) → IsAlike Among one two → Among stamp → IsLeastHome one stamp b home → IsLeastHome two stamp b home
least Among one two stamp b home alike among is = record {
  listed = alike.gives stamp home among is.listed;
  same = compared Among one two stamp home b true alike among is.listed is.same;
  least = differ Among one two stamp b home alike among is.least;
}

none : (Among : Stamp → Type 0) (one two : Stored) (stamp : Stamp) (b : shelf.Told) → IsAlike Among one two → Among stamp → HasNone one stamp b → HasNone two stamp b
none Among one two stamp b alike among has other listed =
    let lists = alike.takes stamp other among listed in compared Among one two stamp other b false alike among lists (has other lists)

takes : (Among : Stamp → Type 0) (one two : Stored) (n : ℕ) (stamp : Stamp) (b : shelf.Told) (next : ℕ) (home : Home) (written : List (List ℕ)) → IsAlike Among one two → Among stamp
    → TakesHome one n stamp b next home written → TakesHome two n stamp b next home written
takes Among one two n stamp b next home written alike among (inl is) = inl (least Among one two stamp b home alike among is.0, is.1)
takes Among one two n stamp b next home written alike among (inr is) = inr (none Among one two stamp b alike among is.0, is.1, is.2)

brings : (Among : Stamp → Type 0) (one two : Stored) (x y : DepotState) (n : ℕ) (held : HeldFile) (next : ℕ) (new : HeldFile) (written : List (List ℕ)) → IsAlike Among one two → AreAlike x y → Among held.stamp
    → IsBroughtTo one x n held next new written → IsBroughtTo two y n held next new written
brings Among one two x y n held next new written alike same among is = (
  is.0,
  takes Among one two n held.stamp (brought_told y held.body) next is.0 written alike among (subst (λ t. TakesHome one n held.stamp t next is.0 written) (same held.body) is.1),
  is.2,
)

body_alike : (Among : Stamp → Type 0) (one two : Stored) (x y : DepotState) (n : ℕ) (held : HeldFile) (body : Body) (next : ℕ) (new : HeldFile) (written : List (List ℕ)) → IsAlike Among one two → AreAlike x y
    → BringsAmong Among held body → IsBodyPlaced one x n held body next new written → IsBodyPlaced two y n held body next new written
body_alike Among one two x y n held (Here bytes) next new written alike same among is = brings Among one two x y n held next new written alike same (among refl) is
body_alike Among one two x y n held (Kept home) next new written alike same among is = is
body_alike Among one two x y n held (Depot path) next new written alike same among is = brings Among one two x y n held next new written alike same (among refl) is

entry_alike : (Among : Stamp → Type 0) (one two : Stored) (x y : DepotState) (n : ℕ) (e : Entry HeldFile) (next : ℕ) (new : Entry HeldFile) (written : List (List ℕ)) → IsAlike Among one two → AreAlike x y
    → EntryAmong Among e → IsEntryPlaced one x n e next new written → IsEntryPlaced two y n e next new written
entry_alike Among one two x y n (Dir attributes) next new written alike same among is = is
entry_alike Among one two x y n (Opaque attributes) next new written alike same among is = is
entry_alike Among one two x y n (File attributes held) next new written alike same among is = (is.0, body_alike Among one two x y n held held.body next is.0 written alike same among is.1, is.2)
entry_alike Among one two x y n (Link owner target) next new written alike same among is = is
entry_alike Among one two x y n Hide next new written alike same among is = is

-- entries have the same homes in two stores that are alike
pub entries_alike : (Among : Stamp → Type 0) (one two : Stored) (x y : DepotState) (n : ℕ) (es : Entries HeldFile) (next : ℕ) (new : Entries HeldFile) (written : List (List ℕ)) → IsAlike Among one two → AreAlike x y
    → AreAmong Among es → ArePlaced one x n es next new written → ArePlaced two y n es next new written
entries_alike Among one two x y n [] next new written alike same among is = is
entries_alike Among one two x y n (e ∷ es) next new written alike same among is = (
  is.0,
  is.1,
  is.2,
  is.3,
  entry_alike Among one two x y n e.1 next is.0 is.2 alike same among.0 is.4,
  entries_alike Among one two x y n es (next + length is.2) is.1 is.3 alike same among.1 is.5,
  is.6,
  is.7,
)

pub placed_both : (old : Stored) (depot : DepotState) (n : ℕ) (es gs : Entries HeldFile) (next : ℕ) (fs hs : Entries HeldFile) (first rest : List (List ℕ))
    → ArePlaced old depot n es next fs first → ArePlaced old depot n gs (next + length first) hs rest → ArePlaced old depot n (es ++ gs) next (fs ++ hs) (first ++ rest)
placed_both old depot n [] gs next fs hs first rest one two =
    let none : next + length first ≡ next = omega (arith, ap length one.1) in
    subst (λ l. ArePlaced old depot n gs next (l ++ hs) (first ++ rest)) (sym one.0)
    (subst (λ l. ArePlaced old depot n gs next hs (l ++ rest)) (sym one.1) (subst (λ i. ArePlaced old depot n gs i hs rest) none two))
placed_both old depot n (e ∷ es) gs next fs hs first rest one two =
    let more : next + length first ≡ (next + length one.2) + length one.3 = omega (arith, ap length one.7, length-append one.2 one.3) in (
      one.0,
      one.1 ++ hs,
      one.2,
      one.3 ++ rest,
      one.4,
      placed_both old depot n es gs (next + length one.2) one.1 hs one.3 rest one.5 (subst (λ i. ArePlaced old depot n gs i hs rest) more two),
      ap (λ l. l ++ hs) one.6,
      ap (λ l. l ++ rest) one.7 ∙ append_assoc one.2 one.3 rest,
    )

damaged : (Among : Stamp → Type 0) (one two : Stored) (stamp : Stamp) (b : shelf.Told) (home : Home) (found : Option Stamp) → IsAlike Among one two → Among stamp
    → IsDamaged one stamp b home found → IsDamaged two stamp b home found
damaged Among one two stamp b home found alike among is = record {
  listed = alike.gives stamp home among is.listed;
  least = differ Among one two stamp b home alike among is.least;
  differs = subst (λ t. IsFound stamp t found) (alike.tells stamp home among is.listed) is.differs;
}

intact : (Among : Stamp → Type 0) (one two : Stored) (stamp : Stamp) → IsAlike Among one two → Among stamp → IsFirstIntact one stamp → IsFirstIntact two stamp
intact Among one two stamp alike among is home listed least' =
    let lists = alike.takes stamp home among listed in
    subst (λ t. IsListed t stamp) (alike.tells stamp home among lists) (is home lists (λ other there. least' other (alike.gives stamp other among there)))

-- what comes out of the depot is brought
from_depot : (Among : Stamp → Type 0) (held : HeldFile) (path : List (List ℕ)) → BringsAmong Among held held.body → held.body ≡ Depot path → Among held.stamp
from_depot Among held path among is = among (ap is_brought is)

-- since an earlier time, with what was told then
pub cause_since : (Among : Stamp → Type 0) (one two : Stored) (x y after : DepotState) (old mid new : DiskState) (held : HeldFile) (e : HomesErr) → IsAlike Among one two → AreAlike x y → old.faults ≤ mid.faults → y.faults ≤ x.faults
    → BringsAmong Among held held.body → HomeCause mid new x after one held e → HomeCause old new y after two held e
cause_since Among one two x y after old mid new held (Fault OutOfMemory) alike same disk depot among cause = tt
cause_since Among one two x y after old mid new held (Fault DiskFault) alike same disk depot among cause = rose_since old.faults mid.faults new.faults disk cause
cause_since Among one two x y after old mid new held (Fault DepotFault) alike same disk depot among cause = rose_since y.faults x.faults after.faults depot cause
cause_since Among one two x y after old mid new held (Fault (Damaged damage)) alike same disk depot among cause = (
  cause.0,
  cause.1,
  damaged Among one two damage.listed (brought_told y held.body) damage.home damage.found alike (subst Among (sym cause.1) (among cause.0)) (subst (λ t. IsDamaged one damage.listed t damage.home damage.found) (same held.body) cause.2),
)
cause_since Among one two x y after old mid new held (Mismatch path listed found) alike same disk depot among cause = (
  cause.0,
  cause.1,
  intact Among one two listed alike (subst Among (sym cause.1) (from_depot Among held path among cause.0)) cause.2,
  subst (λ t. IsReadStamp t listed found) (same held.body) cause.3,
)
cause_since Among one two x y after old mid new held (NotInDepot path) alike same disk depot among cause =
    (cause.0, intact Among one two held.stamp alike (from_depot Among held path among cause.0) cause.1, subst IsMissing (same held.body) cause.2)

-- the first of some files that gets no home, since an earlier time
stops_since : (Among : Stamp → Type 0) (one two : Stored) (x y : DepotState) (n : ℕ) (es : Entries HeldFile) (next : ℕ) (Why Since : HeldFile → Type 0) → IsAlike Among one two → AreAlike x y → AreAmong Among es
    → ((held : HeldFile) → BringsAmong Among held held.body → Why held → Since held) → StopsAt one x n es next Why → StopsAt two y n es next Since
stops_since Among one two x y n es next Why Since alike same among why stops =
    let here : AreAmong Among (stops.before ++ (stops.path, File stops.attributes stops.held) ∷ stops.after) = subst (AreAmong Among) stops.entries among in
    record {
      before = stops.before;
      after = stops.after;
      path = stops.path;
      attributes = stops.attributes;
      held = stops.held;
      entries = stops.entries;
      placed = stops.placed;
      written = stops.written;
      homes = entries_alike Among one two x y n stops.before next stops.placed stops.written alike same
          (all_prefix (λ e. EntryAmong Among e.1) stops.before ((stops.path, File stops.attributes stops.held) ∷ stops.after) here) stops.homes;
      why = why stops.held (all_back (λ e. EntryAmong Among e.1) stops.before ((stops.path, File stops.attributes stops.held) ∷ stops.after) here).0 stops.why;
    }

-- a cause of a later stretch is one since an earlier time
pub homes_cause_since : (Among : Stamp → Type 0) (one two : Stored) (x y after : DepotState) (old mid new : DiskState) (n : ℕ) (es : Entries HeldFile) (next : ℕ) (e : HomesErr) → IsAlike Among one two → AreAlike x y → AreAmong Among es
    → old.faults ≤ mid.faults → y.faults ≤ x.faults → HomesCause mid new x after one n es next e → HomesCause old new y after two n es next e
homes_cause_since Among one two x y after old mid new n es next (Fault OutOfMemory) alike same among disk depot cause = tt
homes_cause_since Among one two x y after old mid new n es next (Fault DiskFault) alike same among disk depot cause = rose_since old.faults mid.faults new.faults disk cause
homes_cause_since Among one two x y after old mid new n es next (Fault DepotFault) alike same among disk depot cause = rose_since y.faults x.faults after.faults depot cause
homes_cause_since Among one two x y after old mid new n es next (Fault (Damaged damage)) alike same among disk depot cause =
    stops_since Among one two x y n es next (λ held. HomeCause mid new x after one held (Fault (Damaged damage))) (λ held. HomeCause old new y after two held (Fault (Damaged damage))) alike same among
    (λ held is why. cause_since Among one two x y after old mid new held (Fault (Damaged damage)) alike same disk depot is why) cause
homes_cause_since Among one two x y after old mid new n es next (Mismatch path listed found) alike same among disk depot cause =
    stops_since Among one two x y n es next (λ held. HomeCause mid new x after one held (Mismatch path listed found)) (λ held. HomeCause old new y after two held (Mismatch path listed found)) alike same among
    (λ held is why. cause_since Among one two x y after old mid new held (Mismatch path listed found) alike same disk depot is why) cause
homes_cause_since Among one two x y after old mid new n es next (NotInDepot path) alike same among disk depot cause =
    stops_since Among one two x y n es next (λ held. HomeCause mid new x after one held (NotInDepot path)) (λ held. HomeCause old new y after two held (NotInDepot path)) alike same among
    (λ held is why. cause_since Among one two x y after old mid new held (NotInDepot path) alike same disk depot is why) cause

stops_more : (old : Stored) (depot : DepotState) (n : ℕ) (es gs : Entries HeldFile) (next : ℕ) (Why : HeldFile → Type 0) → StopsAt old depot n es next Why → StopsAt old depot n (es ++ gs) next Why
stops_more old depot n es gs next Why stops = record {
  before = stops.before;
  after = stops.after ++ gs;
  path = stops.path;
  attributes = stops.attributes;
  held = stops.held;
  entries = ap (λ l. l ++ gs) stops.entries ∙ append_assoc stops.before ((stops.path, File stops.attributes stops.held) ∷ stops.after) gs;
  placed = stops.placed;
  written = stops.written;
  homes = stops.homes;
  why = stops.why;
}

pub cause_more : (disk new : DiskState) (depot after : DepotState) (old : Stored) (n : ℕ) (es gs : Entries HeldFile) (next : ℕ) (e : HomesErr) → HomesCause disk new depot after old n es next e → HomesCause disk new depot after old n (es ++ gs) next e
cause_more disk new depot after old n es gs next (Fault OutOfMemory) cause = tt
cause_more disk new depot after old n es gs next (Fault DiskFault) cause = cause
cause_more disk new depot after old n es gs next (Fault DepotFault) cause = cause
cause_more disk new depot after old n es gs next (Fault (Damaged damage)) cause = stops_more old depot n es gs next (λ held. HomeCause disk new depot after old held (Fault (Damaged damage))) cause
cause_more disk new depot after old n es gs next (Mismatch path listed found) cause = stops_more old depot n es gs next (λ held. HomeCause disk new depot after old held (Mismatch path listed found)) cause
cause_more disk new depot after old n es gs next (NotInDepot path) cause = stops_more old depot n es gs next (λ held. HomeCause disk new depot after old held (NotInDepot path)) cause

stops_after : (old : Stored) (depot : DepotState) (n : ℕ) (es gs : Entries HeldFile) (next mid : ℕ) (fs : Entries HeldFile) (first : List (List ℕ)) (Why : HeldFile → Type 0) → mid ≡ next + length first
    → ArePlaced old depot n es next fs first → StopsAt old depot n gs mid Why → StopsAt old depot n (es ++ gs) next Why
stops_after old depot n es gs next mid fs first Why count placed stops = record {
  before = es ++ stops.before;
  after = stops.after;
  path = stops.path;
  attributes = stops.attributes;
  held = stops.held;
  entries = ap (λ l. es ++ l) stops.entries ∙ sym (append_assoc es stops.before ((stops.path, File stops.attributes stops.held) ∷ stops.after));
  placed = fs ++ stops.placed;
  written = first ++ stops.written;
  homes = placed_both old depot n es stops.before next fs stops.placed first stops.written placed (subst (λ i. ArePlaced old depot n stops.before i stops.placed stops.written) count stops.homes);
  why = stops.why;
}

pub cause_after : (disk new : DiskState) (depot after : DepotState) (old : Stored) (n : ℕ) (es gs : Entries HeldFile) (next mid : ℕ) (fs : Entries HeldFile) (first : List (List ℕ)) (e : HomesErr) → mid ≡ next + length first
    → ArePlaced old depot n es next fs first → HomesCause disk new depot after old n gs mid e → HomesCause disk new depot after old n (es ++ gs) next e
cause_after disk new depot after old n es gs next mid fs first (Fault OutOfMemory) count placed cause = tt
cause_after disk new depot after old n es gs next mid fs first (Fault DiskFault) count placed cause = cause
cause_after disk new depot after old n es gs next mid fs first (Fault DepotFault) count placed cause = cause
cause_after disk new depot after old n es gs next mid fs first (Fault (Damaged damage)) count placed cause =
    stops_after old depot n es gs next mid fs first (λ held. HomeCause disk new depot after old held (Fault (Damaged damage))) count placed cause
cause_after disk new depot after old n es gs next mid fs first (Mismatch path listed found) count placed cause =
    stops_after old depot n es gs next mid fs first (λ held. HomeCause disk new depot after old held (Mismatch path listed found)) count placed cause
cause_after disk new depot after old n es gs next mid fs first (NotInDepot path) count placed cause =
    stops_after old depot n es gs next mid fs first (λ held. HomeCause disk new depot after old held (NotInDepot path)) count placed cause
