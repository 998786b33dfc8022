-- A host whose files have their homes: how many are written, and that what is told at the homes before decides alone.
use Rattle.std.proofs.Common.{◌≡◌, ℕ, ◌+◌, ◌≤◌, true, false, List, [], ◌∷◌, length, refl, sym, ap, subst, inl, inr, arith, length-append}
use Rattle.ext_depot.specs.Depot.{DepotState}
use Rattle.ext_disk.specs.Disk.{DiskState}
use Rattle.ext_tree.specs.Tree.{Entries}
use Rattle.ext_tree.specs.declared.entry.Entry.{Entry}
use Rattle.ext_tree.specs.declared.entry.Entry.TheVariants.{Dir, Opaque, File, Link, Hide}
use Rattle.ext_tree.specs.declared.stamp.Stamp.{Stamp}
use Rattle.ext_host.specs.Held.{HeldFile}
use Rattle.ext_host.specs.Shelf as shelf
use Rattle.ext_host.specs.declared.body.Body.{Body}
use Rattle.ext_host.specs.declared.body.Body.TheVariants.{Here, Kept, Depot}
use Rattle.ext_host.specs.declared.home.Home.{Home}
use Rattle.ext_host.specs.declared.host.Host.{Host}
use Rattle.ext_store_files.specs.Comparing.{IsCompared}
use Rattle.ext_store_files.specs.Copying.{contents_told, IsMissing, IsReadStamp}
use Rattle.ext_store_files.specs.HeldFiles.{IsListed}
use Rattle.ext_store_files.proofs.ForCallers.{rose_since}
use Rattle.ext_homes.specs.Refused.{HomesCause, IsFirstIntact, StopsAt}
use Rattle.ext_homes.specs.declared.errors.HomesErr.{HomesErr}
use Rattle.ext_store_files.specs.declared.fault.StoreFault.TheVariants as store_faults
use Rattle.ext_homes.specs.declared.errors.HomesErr.TheVariants as homes_errors
use Rattle.ext_homes.specs.Placed.{Stored, DifferBefore, TakesHome, IsBroughtTo, IsBodyPlaced, IsEntryPlaced, ArePlaced, IsHostPlaced, brought_told}

taken_count : (old : Stored) (n : ℕ) (stamp : Stamp) (brought : shelf.Told) (next : ℕ) (home : Home) (written : List (List ℕ)) → TakesHome old n stamp brought next home written → length written ≤ 1
taken_count old n stamp brought next home written (inl is) = omega (arith, ap length is.1)
taken_count old n stamp brought next home written (inr is) = omega (arith, ap length is.2.3)

body_count : (old : Stored) (depot : DepotState) (n : ℕ) (held : HeldFile) (body : Body) (next : ℕ) (new : HeldFile) (written : List (List ℕ)) → IsBodyPlaced old depot n held body next new written
    → length written ≤ 1
body_count old depot n held (Here bytes) next new written is = taken_count old n held.stamp _ next is.0 written is.1
body_count old depot n held (Kept home) next new written is = omega (arith, ap length is.1)
body_count old depot n held (Depot path) next new written is = taken_count old n held.stamp _ next is.0 written is.1

entry_count : (old : Stored) (depot : DepotState) (n : ℕ) (e : Entry HeldFile) (next : ℕ) (new : Entry HeldFile) (written : List (List ℕ)) → IsEntryPlaced old depot n e next new written
    → length written ≤ 1
entry_count old depot n (Dir attributes) next new written is = omega (arith, ap length is.1)
entry_count old depot n (Opaque attributes) next new written is = omega (arith, ap length is.1)
entry_count old depot n (File attributes held) next new written is = body_count old depot n held held.body next is.0 written is.1
entry_count old depot n (Link owner target) next new written is = omega (arith, ap length is.1)
entry_count old depot n Hide next new written is = omega (arith, ap length is.1)

placed_count : (old : Stored) (depot : DepotState) (n : ℕ) (es : Entries HeldFile) (next : ℕ) (new : Entries HeldFile) (written : List (List ℕ)) → ArePlaced old depot n es next new written
    → length written ≤ length es
placed_count old depot n [] next new written is = omega (arith, ap length is.1)
placed_count old depot n (x ∷ es) next new written (e, fs, first, rest, one, more, same, parts) =
    let here = entry_count old depot n x.1 next e first one in
    let there = placed_count old depot n es (next + length first) fs rest more in
    omega (arith, ap length parts, length-append first rest)

pub host_count : (old : Stored) (depot : DepotState) (n : ℕ) (host new : Host) (written : List (List ℕ)) → IsHostPlaced old depot n host new written → length written ≤ length host.root + length host.lower
host_count old depot n host new written (root, lower, (first, rest, one, two, parts), same) =
    let here = placed_count old depot n host.root 0 root first one in
    let there = placed_count old depot n host.lower (0 + length first) lower rest two in
    omega (arith, ap length parts, length-append first rest)

-- two stores list the same, and at each home that they list the same is told of both
pub record AreSameListed (lists : Stamp → Home → Type 0) (one two : Home → shelf.Told) : Type 0 where
  pub same : (stamp : Stamp) (home : Home) → lists stamp home → one home ≡ two home

module _ (lists : Stamp → Home → Type 0) (one two : Home → shelf.Told) (alike : AreSameListed lists one two) where
  abbrev first : Stored
  first = record { lists = lists; told = one }

  abbrev second : Stored
  second = record { lists = lists; told = two }

  same_before : (stamp : Stamp) (brought : shelf.Told) (home : Home) → DifferBefore first stamp brought home → DifferBefore second stamp brought home
  same_before stamp brought home differ = λ other listed less. subst (λ t. IsCompared t brought stamp false) (alike.same stamp other listed) (differ other listed less)

  same_taken : (n : ℕ) (stamp : Stamp) (brought : shelf.Told) (next : ℕ) (home : Home) (written : List (List ℕ)) → TakesHome first n stamp brought next home written → TakesHome second n stamp brought next home written
  same_taken n stamp brought next home written (inl least) = inl (
    record {
      listed = least.0.listed;
      same = subst (λ t. IsCompared t brought stamp true) (alike.same stamp home least.0.listed) least.0.same;
      least = same_before stamp brought home least.0.least;
    },
    least.1,
  )
  same_taken n stamp brought next home written (inr none) = inr (
    (λ other listed. subst (λ t. IsCompared t brought stamp false) (alike.same stamp other listed) (none.0 other listed)),
    none.1,
    none.2,
  )

  module _ (before after : DepotState) (same : after.contents ≡ before.contents) where
    told_brought : (body : Body) → brought_told before body ≡ brought_told after body
    told_brought (Here bytes) = refl
    told_brought (Kept home) = refl
    told_brought (Depot path) = ap (λ c. contents_told c path) (sym same)

    same_brought : (n : ℕ) (held : HeldFile) (next : ℕ) (new : HeldFile) (written : List (List ℕ)) → IsBroughtTo first after n held next new written → IsBroughtTo second before n held next new written
    same_brought n held next new written is =
        (is.0, same_taken n held.stamp (brought_told before held.body) next is.0 written (subst (λ t. TakesHome first n held.stamp t next is.0 written) (sym (told_brought held.body)) is.1), is.2)

    same_body : (n : ℕ) (held : HeldFile) (body : Body) (next : ℕ) (new : HeldFile) (written : List (List ℕ)) → IsBodyPlaced first after n held body next new written → IsBodyPlaced second before n held body next new written
    same_body n held (Here bytes) next new written is = same_brought n held next new written is
    same_body n held (Kept home) next new written is = is
    same_body n held (Depot path) next new written is = same_brought n held next new written is

    same_entry : (n : ℕ) (e : Entry HeldFile) (next : ℕ) (new : Entry HeldFile) (written : List (List ℕ)) → IsEntryPlaced first after n e next new written → IsEntryPlaced second before n e next new written
    same_entry n (Dir attributes) next new written is = is
    same_entry n (Opaque attributes) next new written is = is
    same_entry n (File attributes held) next new written is = (is.0, same_body n held held.body next is.0 written is.1, is.2)
    same_entry n (Link owner target) next new written is = is
    same_entry n Hide next new written is = is

    pub same_placed : (n : ℕ) (es : Entries HeldFile) (next : ℕ) (new : Entries HeldFile) (written : List (List ℕ)) → ArePlaced first after n es next new written → ArePlaced second before n es next new written
    same_placed n [] next new written is = is
    same_placed n (x ∷ es) next new written (e, fs, head, rest, here, more, same', parts) =
        (e, fs, head, rest, same_entry n x.1 next e head here, same_placed n es (next + length head) fs rest more, same', parts)

    pub same_host : (n : ℕ) (host new : Host) (written : List (List ℕ)) → IsHostPlaced first after n host new written → IsHostPlaced second before n host new written
    same_host n host new written (root, lower, (head, rest, here, more, parts), same') =
        (root, lower, (head, rest, same_placed n host.root 0 root head here, same_placed n host.lower (0 + length head) lower rest more, parts), same')

    same_stop : (n : ℕ) (es : Entries HeldFile) (next : ℕ) (Why Whyever : HeldFile → Type 0) → ((held : HeldFile) → Why held → Whyever held) → StopsAt first after n es next Why
        → StopsAt second before n es next Whyever
    same_stop n es next Why Whyever gives stops = record {
      before = stops.before;
      after = stops.after;
      path = stops.path;
      attributes = stops.attributes;
      held = stops.held;
      entries = stops.entries;
      placed = stops.placed;
      written = stops.written;
      homes = same_placed n stops.before next stops.placed stops.written stops.homes;
      why = gives stops.held stops.why;
    }

    same_intact : (stamp : Stamp) → IsFirstIntact first stamp → IsFirstIntact second stamp
    same_intact stamp intact = λ home listed least. subst (λ t. IsListed t stamp) (alike.same stamp home listed) (intact home listed least)

    -- why a file got no home, seen from an earlier disk and depot
    pub same_cause : (n : ℕ) (es : Entries HeldFile) (disk mid new : DiskState) (ended : DepotState) (e : HomesErr) → disk.faults ≤ mid.faults → before.faults ≤ after.faults
        → HomesCause mid new after ended first n es 0 e → HomesCause disk new before ended second n es 0 e
    same_cause n es disk mid new ended (homes_errors.Fault store_faults.OutOfMemory) earlier kept cause = tt
    same_cause n es disk mid new ended (homes_errors.Fault store_faults.DiskFault) earlier kept cause = rose_since disk.faults mid.faults new.faults earlier cause
    same_cause n es disk mid new ended (homes_errors.Fault store_faults.DepotFault) earlier kept cause = rose_since before.faults after.faults ended.faults kept cause
    same_cause n es disk mid new ended (homes_errors.Fault (store_faults.Damaged damage)) earlier kept cause =
        same_stop n es 0 _ _
        (λ held why. (
          why.0,
          why.1,
          record {
            listed = why.2.listed;
            least = same_before damage.listed (brought_told before held.body) damage.home (subst (λ t. DifferBefore first damage.listed t damage.home) (sym (told_brought held.body)) why.2.least);
            differs = subst (λ t. shelf.IsFound damage.listed t damage.found) (alike.same damage.listed damage.home why.2.listed) why.2.differs;
          },
        )) cause
    same_cause n es disk mid new ended (homes_errors.Mismatch path listed found) earlier kept cause =
        same_stop n es 0 _ _
        (λ held why. (why.0, why.1, same_intact listed why.2, subst (λ t. IsReadStamp t listed found) (sym (told_brought held.body)) why.3)) cause
    same_cause n es disk mid new ended (homes_errors.NotInDepot path) earlier kept cause =
        same_stop n es 0 _ _
        (λ held why. (why.0, same_intact held.stamp why.1, subst IsMissing (sym (told_brought held.body)) why.2)) cause
