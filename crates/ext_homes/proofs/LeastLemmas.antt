-- The search for the least home that has the bytes of a brought file, among the files of its stamp.
use Rattle.std.proofs.Common.{◌≡◌, ◌≢◌, ◌⊎◌, ℕ, zero, suc, ◌+◌, ◌<◌, ◌≤◌, Bool, true, false, cond, List, [], ◌∷◌, length, take, get_or, refl, sym, ap, ◌∙◌, subst, inl, inr, arith}
use Rattle.std.specs.Cmp.{IsTotalOrder}
use Rattle.std.specs.FinMap.{nat_cmp-IsAntisymmetric, slice_cmp-IsAntisymmetric}
use Rattle.std.specs.List.{AllByRecursion, Contains, filter}
use Rattle.std.specs.Ordering.{nat_cmp, ordering_then, ordering_reverse, is_eq}
use Rattle.std.specs.declared.cmp.Ordering.{Ordering}
use Rattle.std.specs.declared.cmp.Ordering.TheVariants.{Less, Equal, Greater}
use Rattle.std.proofs.lemmas.Bool.{false≢true}
use Rattle.std.proofs.lemmas.Cmp.{nat_cmp_total, on_total, then_total, tied_itself}
use Rattle.std.proofs.lemmas.List.{take_all}
use Rattle.std.proofs.lemmas.List.Elements.{All-contains, All-from_recursion, All-more, recursion_from_All}
use Rattle.ext_text.proofs.ForCallers.{is_equal}
use Rattle.ext_disk.specs.Disk.{DiskState}
use Rattle.ext_disk.specs.Since.{Rests}
use Rattle.ext_disk.proofs.ForCallers.{rests_itself, rests_then}
use Rattle.ext_depot.specs.Depot.{DepotState, IsKept}
use Rattle.ext_tree.specs.declared.stamp.Stamp.{Stamp}
use Rattle.ext_host.specs.Held.{HeldFile}
use Rattle.ext_host.specs.Shelf.{IsFound}
use Rattle.ext_host.specs.declared.body.Body.{Body}
use Rattle.ext_host.specs.declared.body.Body.TheVariants.{Here, Kept, Depot}
use Rattle.ext_host.specs.declared.home.Home.{Home}
use Rattle.ext_store_files.specs.Comparing.{IsCompared}
use Rattle.ext_store_files.specs.Copying.{IsMissing, IsReadStamp}
use Rattle.ext_store_files.specs.HeldFiles.{IsListed, told_at}
use Rattle.ext_store_files.specs.Names.{home_path}
use Rattle.ext_store_files.proofs.ForCallers.{kept_itself, kept_then, kept_told, rose_since}
use Rattle.ext_homes.specs.Brought.{is_brought}
use Rattle.ext_homes.specs.Comparing.{SameCause, stored_in}
use Rattle.ext_homes.specs.Giving.{home_told}
use Rattle.ext_homes.specs.KeptFiles.{AreInOrder, has_stamp, home_of, kept_file, lists_in, stamp_key, stamp_key_cmp}
use Rattle.ext_homes.specs.Placed.{HasNone, IsLeastHome, DifferBefore, brought_told, home_cmp}
use Rattle.ext_homes.specs.Refused.{HomeCause, IsDamaged, IsFirstIntact}
use Rattle.ext_homes.specs.declared.errors.HomesErr.{HomesErr}
use Rattle.ext_store_files.specs.declared.fault.StoreFault.TheVariants.{OutOfMemory, DiskFault, DepotFault, Damaged}
use Rattle.ext_homes.specs.declared.errors.HomesErr.TheVariants.{Fault, Mismatch, NotInDepot}
use Rattle.ext_homes.specs.declared.kept_files.KeptFile.{KeptFile}
use Rattle.ext_homes.specs.declared.kept_files.StampKey.{StampKey}
use Rattle.ext_homes.proofs.KeptFilesLemmas.{contains_here, contains_later, all_passing, stamps_total}

then_equal : (o p : Ordering) → ordering_then o p ≡ Equal → (o ≡ Equal) × (p ≡ Equal)
then_equal Less p is = cc
then_equal Equal p is = (refl, is)
then_equal Greater p is = cc

same_key : (a b : StampKey) → stamp_key_cmp a b ≡ Equal → a ≡ b
same_key a b is =
    let parts = then_equal (nat_cmp a.size b.size) _ is in
    let size = nat_cmp-IsAntisymmetric a.size b.size parts.0 in
    let digest = slice_cmp-IsAntisymmetric nat_cmp-IsAntisymmetric a.digest b.digest parts.1 in
    λ i. record { size = size i; digest = digest i }

same_home : (a b : Home) → home_cmp a b ≡ Equal → a ≡ b
same_home a b is =
    let parts = then_equal (nat_cmp a.generation b.generation) _ is in
    let generation = nat_cmp-IsAntisymmetric a.generation b.generation parts.0 in
    let file = nat_cmp-IsAntisymmetric a.file b.file parts.1 in
    λ i. record { generation = generation i; file = file i }

pub homes_total : IsTotalOrder home_cmp
homes_total = then_total (on_total (λ (h : Home). h.generation) nat_cmp_total) (on_total (λ (h : Home). h.file) nat_cmp_total)

-- homes neither of which is less than the other are one
pub one_home : (a b : Home) → home_cmp a b ≢ Less → home_cmp b a ≢ Less → a ≡ b
one_home a b first second = by_order (home_cmp a b) refl
  where
    by_order : (o : Ordering) → home_cmp a b ≡ o → a ≡ b
    by_order Less is = absurd (first is)
    by_order Equal is = same_home a b is
    by_order Greater is = absurd (second (homes_total.antisymm b a ∙ ap ordering_reverse is))

never_less : (a : Home) → home_cmp a a ≢ Less
never_less a less = false≢true (sym (ap is_eq less) ∙ ap is_eq (tied_itself homes_total a))

passes_filter : (p : KeptFile → Bool) (files : List KeptFile) (f : KeptFile) → Contains files f → p f ≡ true → Contains (filter p files) f
passes_filter p [] f (k, lt, is) pass = absurd (omega arith)
passes_filter p (g ∷ files) f (zero, lt, is) pass =
    subst (λ b. Contains (cond b (g ∷ filter p files) (filter p files)) f) (sym (ap p is ∙ pass)) (subst (Contains (g ∷ filter p files)) is (contains_here g (filter p files)))
passes_filter p (g ∷ files) f (suc k, lt, is) pass =
    let rest = passes_filter p files f (k, omega arith, is) pass in
    elim (p g) as (λ b. Contains (cond b (g ∷ filter p files) (filter p files)) f) [
      | true ↦ contains_later g f (filter p files) rest
      | false ↦ rest
    ]

all_contained : (files : List KeptFile) → AllByRecursion (Contains files) files
all_contained files = recursion_from_All (Contains files) files (λ k d lt. (k, lt, refl_at files k d lt))
  where
    refl_at : (xs : List KeptFile) (k : ℕ) (d : KeptFile) → k < length xs → get_or xs k (get_or xs k d) ≡ get_or xs k d
    refl_at [] k d lt = absurd (omega arith)
    refl_at (x ∷ xs) zero d lt = refl
    refl_at (x ∷ xs) (suc k) d lt = refl_at xs k d (omega arith)

-- a file of the stamp's list is listed with the stamp
pub listed_there : (stamp : Stamp) (files items : List KeptFile) (f : KeptFile) → items ≡ filter (has_stamp (stamp_key stamp)) files → Contains items f → lists_in files stamp (home_of f)
listed_there stamp files items f is among =
    let both : AllByRecursion (λ g. Contains files g × (has_stamp (stamp_key stamp) g ≡ true)) (filter (has_stamp (stamp_key stamp)) files) =
    all_passing (has_stamp (stamp_key stamp)) (Contains files) (λ g. Contains files g × (has_stamp (stamp_key stamp) g ≡ true)) (λ g in' pass. (in', pass)) files (all_contained files) in
    let at = All-contains (λ g. Contains files g × (has_stamp (stamp_key stamp) g ≡ true)) (filter (has_stamp (stamp_key stamp)) files) f
    (All-from_recursion (λ g. Contains files g × (has_stamp (stamp_key stamp) g ≡ true)) (filter (has_stamp (stamp_key stamp)) files) both) (subst (λ l. Contains l f) is among) in
    let key : f.stamp ≡ stamp_key stamp = same_key f.stamp (stamp_key stamp) (is_equal (stamp_key_cmp f.stamp (stamp_key stamp)) at.1) in
    subst (Contains files) (λ i. record { stamp = key i; home = f.home }) at.0

-- and a listed one is in it
pub there_listed : (stamp : Stamp) (files items : List KeptFile) (home : Home) → items ≡ filter (has_stamp (stamp_key stamp)) files → lists_in files stamp home → Contains items (kept_file stamp home)
there_listed stamp files items home is listed =
    subst (λ l. Contains l (kept_file stamp home)) (sym is)
    (passes_filter (has_stamp (stamp_key stamp)) files (kept_file stamp home) listed (ap is_eq (tied_itself stamps_total (stamp_key stamp))))

-- a file of an ordered list stands before this one, or its home is not less
seen_or_later : (items : List KeptFile) (i : ℕ) (f g : KeptFile) → i < length items → f ≡ get_or items i f → AreInOrder items → Contains items g
    → Contains (take i items) g ⊎ (home_cmp (home_of g) (home_of f) ≢ Less)
seen_or_later [] i f g lt at order (k, low, is) = absurd (omega arith)
seen_or_later (x ∷ items) zero f g lt at order (zero, low, is) = inr (subst (λ h. home_cmp (home_of h) (home_of f) ≢ Less) (at ∙ is) (never_less (home_of f)))
seen_or_later (x ∷ items) zero f g lt at order (suc k, low, is) =
    inr (subst (λ h. home_cmp (home_of g) (home_of h) ≢ Less) (sym at) (All-contains (λ h. home_cmp (home_of h) (home_of x) ≢ Less) items g (All-from_recursion (λ h. home_cmp (home_of h) (home_of x) ≢ Less) items order.0) (k, omega arith, is)))
seen_or_later (x ∷ items) (suc i) f g lt at order (zero, low, is) = inl (subst (Contains (x ∷ take i items)) is (contains_here x (take i items)))
seen_or_later (x ∷ items) (suc i) f g lt at order (suc k, low, is) = elim (seen_or_later items i f g (omega arith) at order.1 (k, omega arith, is)) [
  | inl seen ↦ inl (contains_later x g (take i items) seen)
  | inr later ↦ inr later
]

pub home_stays : (a b : DiskState) (home : Home) → Rests a b → home_told b home ≡ home_told a home
home_stays a b home rests = ap (λ o. told_at o (home_path home.generation home.file)) rests.told

pub brought_stays : (a b : DepotState) (body : Body) → IsKept a b → brought_told b body ≡ brought_told a body
brought_stays a b (Here bytes) kept = refl
brought_stays a b (Kept home) kept = refl
brought_stays a b (Depot path) kept = kept_told a b path kept

-- these files were compared and differ, and nothing changed
pub record Looked (items : List KeptFile) (held : HeldFile) (old new : DiskState) (before after : DepotState) (i : ℕ) : Type 0 where
  pub rests : Rests old new
  pub kept : IsKept before after
  pub others : AllByRecursion (λ f. IsCompared (home_told old (home_of f)) (brought_told before held.body) held.stamp false) (take i items)

pub looked_nothing : (items : List KeptFile) (held : HeldFile) (s : DiskState) (d : DepotState) → Looked items held s s d d 0
looked_nothing items held s d = record { rests = rests_itself s; kept = kept_itself d; others = tt }

-- what was compared lately is so of what is told at first
lately : (held : HeldFile) (home : Home) (same : Bool) (old mid : DiskState) (before amid : DepotState) → Rests old mid → IsKept before amid
    → IsCompared (home_told mid home) (brought_told amid held.body) held.stamp same → IsCompared (home_told old home) (brought_told before held.body) held.stamp same
lately held home same old mid before amid rests kept compared =
    subst (λ t. IsCompared t (brought_told before held.body) held.stamp same) (home_stays old mid home rests)
    (subst (λ t. IsCompared (home_told mid home) t held.stamp same) (brought_stays before amid held.body kept) compared)

pub looked_more : (items : List KeptFile) (held : HeldFile) (old mid new : DiskState) (before amid after : DepotState) (i : ℕ) (d : KeptFile) (home : Home)
    → Looked items held old mid before amid i → Rests mid new → IsKept amid after → i < length items → home ≡ home_of (get_or items i d)
    → IsCompared (home_told mid home) (brought_told amid held.body) held.stamp false → Looked items held old new before after (i + 1)
looked_more items held old mid new before amid after i d home looked rests kept lt is compared =
    let Other : KeptFile → Type 0 = λ f. IsCompared (home_told old (home_of f)) (brought_told before held.body) held.stamp false in
    record {
      rests = rests_then old mid new looked.rests rests;
      kept = kept_then before amid after looked.kept kept;
      others = recursion_from_All Other (take (i + 1) items)
          (All-more Other items i d lt (All-from_recursion Other (take i items) looked.others)
          (subst (λ h. IsCompared (home_told old h) (brought_told before held.body) held.stamp false) is (lately held home false old mid before amid looked.rests looked.kept compared)));
    }

same_default : (xs : List KeptFile) (i : ℕ) (d e : KeptFile) → i < length xs → get_or xs i d ≡ get_or xs i e
same_default [] i d e lt = absurd (omega arith)
same_default (x ∷ xs) zero d e lt = refl
same_default (x ∷ xs) (suc i) d e lt = same_default xs i d e (omega arith)

item_among : (xs : List KeptFile) (i : ℕ) (d : KeptFile) → i < length xs → Contains xs (get_or xs i d)
item_among xs i d lt = (i, lt, same_default xs i (get_or xs i d) d lt)

-- a file of the list is at a home that is listed
pub item_listed : (stamp : Stamp) (files items : List KeptFile) (i : ℕ) (d : KeptFile) (home : Home) → items ≡ filter (has_stamp (stamp_key stamp)) files → i < length items
    → home ≡ home_of (get_or items i d) → lists_in files stamp home
item_listed stamp files items i d home all lt is =
    subst (lists_in files stamp) (sym is) (listed_there stamp files items (get_or items i d) all (item_among items i d lt))

-- each lesser home that is listed was compared
differ_before : (files items : List KeptFile) (held : HeldFile) (old mid : DiskState) (before amid : DepotState) (i : ℕ) (d : KeptFile) (home : Home)
    → items ≡ filter (has_stamp (stamp_key held.stamp)) files → AreInOrder items → Looked items held old mid before amid i → i < length items → home ≡ home_of (get_or items i d)
    → DifferBefore (stored_in files old) held.stamp (brought_told before held.body) home
differ_before files items held old mid before amid i d home all order looked lt is other listed less =
    let Other : KeptFile → Type 0 = λ f. IsCompared (home_told old (home_of f)) (brought_told before held.body) held.stamp false in
    elim (seen_or_later items i (get_or items i d) (kept_file held.stamp other) lt (same_default items i d (get_or items i d) lt) order (there_listed held.stamp files items other all listed)) [
      | inl seen ↦ All-contains Other (take i items) (kept_file held.stamp other) (All-from_recursion Other (take i items) looked.others) seen
      | inr later ↦ absurd (later (subst (λ h. home_cmp other h ≡ Less) is less))
    ]

pub found_least : (files items : List KeptFile) (held : HeldFile) (old mid : DiskState) (before amid : DepotState) (i : ℕ) (d : KeptFile) (home : Home)
    → items ≡ filter (has_stamp (stamp_key held.stamp)) files → AreInOrder items → Looked items held old mid before amid i → i < length items → home ≡ home_of (get_or items i d)
    → IsCompared (home_told mid home) (brought_told amid held.body) held.stamp true → IsLeastHome (stored_in files old) held.stamp (brought_told before held.body) home
found_least files items held old mid before amid i d home all order looked lt is compared = record {
  listed = item_listed held.stamp files items i d home all lt is;
  same = lately held home true old mid before amid looked.rests looked.kept compared;
  least = differ_before files items held old mid before amid i d home all order looked lt is;
}

pub found_none : (files items : List KeptFile) (held : HeldFile) (old mid : DiskState) (before amid : DepotState) (i : ℕ) → items ≡ filter (has_stamp (stamp_key held.stamp)) files
    → Looked items held old mid before amid i → length items ≤ i → HasNone (stored_in files old) held.stamp (brought_told before held.body)
found_none files items held old mid before amid i all looked past other listed =
    let Other : KeptFile → Type 0 = λ f. IsCompared (home_told old (home_of f)) (brought_told before held.body) held.stamp false in
    All-contains Other items (kept_file held.stamp other) (All-from_recursion Other items (subst (AllByRecursion Other) (take_all i items past) looked.others))
    (there_listed held.stamp files items other all listed)

-- the least home is intact where all that were compared are, and the one that is looked at
first_intact : (files items : List KeptFile) (held : HeldFile) (old mid : DiskState) (before amid : DepotState) (i : ℕ) (d : KeptFile) (home : Home)
    → items ≡ filter (has_stamp (stamp_key held.stamp)) files → AreInOrder items → Looked items held old mid before amid i → i < length items → home ≡ home_of (get_or items i d)
    → IsListed (home_told mid home) held.stamp → IsFirstIntact (stored_in files old) held.stamp
first_intact files items held old mid before amid i d home all order looked lt is intact first listed least =
    let Other : KeptFile → Type 0 = λ f. IsCompared (home_told old (home_of f)) (brought_told before held.body) held.stamp false in
    elim (seen_or_later items i (get_or items i d) (kept_file held.stamp first) lt (same_default items i d (get_or items i d) lt) order (there_listed held.stamp files items first all listed)) [
      | inl seen ↦ (All-contains Other (take i items) (kept_file held.stamp first) (All-from_recursion Other (take i items) looked.others) seen).0
      | inr later ↦
          let same : home ≡ first = one_home home first (least home (item_listed held.stamp files items i d home all lt is)) (subst (λ h. home_cmp first h ≢ Less) (sym is) later) in
          subst (λ h. IsListed (home_told old h) held.stamp) same (subst (λ t. IsListed t held.stamp) (home_stays old mid home looked.rests) intact)
    ]

-- why the search stopped at a home
pub look_stops : (files items : List KeptFile) (held : HeldFile) (old mid new : DiskState) (before amid after : DepotState) (i : ℕ) (d : KeptFile) (home : Home) (e : HomesErr)
    → items ≡ filter (has_stamp (stamp_key held.stamp)) files → AreInOrder items → Looked items held old mid before amid i → i < length items → home ≡ home_of (get_or items i d) → is_brought held.body ≡ true
    → SameCause mid new amid after (home_told mid home) home held e → HomeCause old new before after (stored_in files old) held e
look_stops files items held old mid new before amid after i d home (Fault OutOfMemory) all order looked lt is brought cause = tt
look_stops files items held old mid new before amid after i d home (Fault DiskFault) all order looked lt is brought cause = rose_since old.faults mid.faults new.faults looked.rests.count cause
look_stops files items held old mid new before amid after i d home (Fault DepotFault) all order looked lt is brought cause = rose_since before.faults amid.faults after.faults looked.kept.count cause
look_stops files items held old mid new before amid after i d home (Fault (Damaged damage)) all order looked lt is brought cause = (
  brought,
  cause.1,
  subst (λ s. IsDamaged (stored_in files old) s (brought_told before held.body) damage.home damage.found) (sym cause.1)
      (subst (λ h. IsDamaged (stored_in files old) held.stamp (brought_told before held.body) h damage.found) (sym cause.0) (record {
        listed = item_listed held.stamp files items i d home all lt is;
        least = differ_before files items held old mid before amid i d home all order looked lt is;
        differs = subst (λ s. IsFound s (home_told old home) damage.found) cause.1 (subst (λ t. IsFound damage.listed t damage.found) (home_stays old mid home looked.rests) cause.2);
      })),
)
look_stops files items held old mid new before amid after i d home (Mismatch path listed found) all order looked lt is brought cause = (
  cause.0,
  cause.1,
  subst (IsFirstIntact (stored_in files old)) (sym cause.1) (first_intact files items held old mid before amid i d home all order looked lt is (subst (IsListed (home_told mid home)) cause.1 cause.2)),
  subst (λ t. IsReadStamp t listed found) (brought_stays before amid held.body looked.kept) cause.3,
)
look_stops files items held old mid new before amid after i d home (NotInDepot path) all order looked lt is brought cause = (
  cause.0,
  first_intact files items held old mid before amid i d home all order looked lt is cause.1,
  subst IsMissing (brought_stays before amid held.body looked.kept) cause.2,
)
