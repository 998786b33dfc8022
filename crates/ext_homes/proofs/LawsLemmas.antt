-- What is placed where all is told.
use Rattle.std.proofs.Common.{◌≡◌, ◌≢◌, ◌⊎◌, ℕ, ◌+◌, true, false, List, [], ◌∷◌, ◌++◌, length, Option, Some, None, refl, sym, ap, ◌∙◌, subst, inl, inr}
use Rattle.std.specs.declared.cmp.Ordering.TheVariants.{Less}
use Rattle.ext_depot.specs.Depot.{DepotState, Files}
use Rattle.ext_tree.specs.Tree.{Entries}
use Rattle.ext_tree.specs.declared.entry.Entry.{Entry}
use Rattle.ext_tree.specs.declared.entry.Entry.TheVariants.{Dir, Opaque, File, Link, Hide}
use Rattle.ext_tree.specs.declared.stamp.Stamp.{Stamp}
use Rattle.ext_host.specs.Held.{HeldFile, IsStampOf}
use Rattle.ext_host.specs.Shelf as shelf
use Rattle.ext_host.specs.Shelf.{IsTold, missing, stored, untold}
use Rattle.ext_host.specs.declared.body.Body.{Body}
use Rattle.ext_host.specs.declared.body.Body.TheVariants.{Here, Kept, Depot}
use Rattle.ext_host.specs.declared.home.Home.{Home}
use Rattle.ext_host.specs.declared.host.Host.{Host}
use Rattle.ext_host.proofs.ForCallers.{one_stamp}
use Rattle.ext_store_files.specs.Comparing.{IsCompared}
use Rattle.ext_store_files.specs.Copying.{bytes_told, contents_told}
use Rattle.ext_homes.specs.Laws.{HasBytes, HasNowhere, IsLeastOf}
use Rattle.ext_homes.specs.Placed.{Stored, ArePlaced, IsBodyPlaced, IsBroughtTo, IsEntryPlaced, IsHostPlaced, IsLeastHome, HasNone, TakesHome, brought_told, home_cmp}
use Rattle.ext_homes.proofs.LeastLemmas.{one_home}

-- what is compared are the bytes
bytes_same : (told : shelf.Told) (xs bytes : List ℕ) (stamp : Stamp) → told ≡ stored xs → IsCompared told (stored bytes) stamp true → xs ≡ bytes
bytes_same told xs bytes stamp is compared = (subst (λ t. IsCompared t (stored bytes) stamp true) is compared).2

bytes_differ : (told : shelf.Told) (xs bytes : List ℕ) (stamp : Stamp) → told ≡ stored xs → IsCompared told (stored bytes) stamp false → xs ≢ bytes
bytes_differ told xs bytes stamp is compared = (subst (λ t. IsCompared t (stored bytes) stamp false) is compared).2

-- a home at which the brought bytes are lists their stamp
lists_stamp : (old : Stored) (contents : Home → List ℕ) (bytes : List ℕ) (stamp other : Stamp) (home : Home) → HasBytes old contents → IsStampOf bytes stamp → old.lists other home → contents home ≡ bytes
    → old.lists stamp home
lists_stamp old contents bytes stamp other home has stamped lists same =
    subst (λ s. old.lists s home) (one_stamp bytes other stamp (subst (λ b. IsStampOf b other) same (has.stamped other home lists)) stamped) lists

-- bytes that are told have one home
pub takes_of_bytes : (old : Stored) (contents : Home → List ℕ) → HasBytes old contents → (n next : ℕ) (stamp : Stamp) (bytes : List ℕ) (home : Home) (written : List (List ℕ))
    → TakesHome old n stamp (stored bytes) next home written
    → (IsLeastOf old contents bytes home × (written ≡ [])) ⊎ (HasNowhere old contents bytes × (home ≡ record { generation = n; file = next }) × (written ≡ bytes ∷ []))
takes_of_bytes old contents has n next stamp bytes home written (inl is) = inl (
  record {
    stamp = stamp;
    listed = is.0.listed;
    same = bytes_same (old.told home) (contents home) bytes stamp (has.told stamp home is.0.listed) is.0.same;
    least = λ other at lists same less.
        let here = lists_stamp old contents bytes stamp other at has is.0.same.1 lists same in
        bytes_differ (old.told at) (contents at) bytes stamp (has.told stamp at here) (is.0.least at here less) same;
  },
  is.1,
)
takes_of_bytes old contents has n next stamp bytes home written (inr is) =
    let stamped : IsStampOf bytes stamp = subst (λ b. IsStampOf b stamp) is.2.1 is.2.2 in
    inr (
      λ other at lists same.
          let here = lists_stamp old contents bytes stamp other at has stamped lists same in
          bytes_differ (old.told at) (contents at) bytes stamp (has.told stamp at here) (is.0 at here) same,
      is.1,
      is.2.3 ∙ ap (λ b. b ∷ []) is.2.1,
    )

no_other : (old : Stored) (contents : Home → List ℕ) (stamp : Stamp) (bytes : List ℕ) (home other : Home) → HasBytes old contents → IsLeastHome old stamp (stored bytes) home → IsLeastHome old stamp (stored bytes) other
    → home_cmp home other ≢ Less
no_other old contents stamp bytes home other has one two less =
    bytes_differ (old.told home) (contents home) bytes stamp (has.told stamp home one.listed) (two.least home one.listed less) (bytes_same (old.told home) (contents home) bytes stamp (has.told stamp home one.listed) one.same)

not_none : (old : Stored) (contents : Home → List ℕ) (stamp : Stamp) (bytes : List ℕ) (home : Home) → HasBytes old contents → IsLeastHome old stamp (stored bytes) home → HasNone old stamp (stored bytes) → ⊥
not_none old contents stamp bytes home has one none =
    bytes_differ (old.told home) (contents home) bytes stamp (has.told stamp home one.listed) (none home one.listed) (bytes_same (old.told home) (contents home) bytes stamp (has.told stamp home one.listed) one.same)

one_way : (old : Stored) (contents : Home → List ℕ) (n : ℕ) (stamp : Stamp) (brought : shelf.Told) (next : ℕ) (h k : Home) (w v : List (List ℕ)) → HasBytes old contents → brought ≢ untold
    → TakesHome old n stamp brought next h w → TakesHome old n stamp brought next k v → (h ≡ k) × (w ≡ v)
one_way old contents n stamp untold next h k w v has told one two = absurd (told refl)
one_way old contents n stamp missing next h k w v has told (inl one) two = absurd one.0.same.1
one_way old contents n stamp missing next h k w v has told (inr one) two = absurd one.2.1
one_way old contents n stamp (stored bytes) next h k w v has told (inl one) (inl two) =
    (one_home h k (no_other old contents stamp bytes h k has one.0 two.0) (no_other old contents stamp bytes k h has two.0 one.0), one.1 ∙ sym two.1)
one_way old contents n stamp (stored bytes) next h k w v has told (inl one) (inr two) = absurd (not_none old contents stamp bytes h has one.0 two.0)
one_way old contents n stamp (stored bytes) next h k w v has told (inr one) (inl two) = absurd (not_none old contents stamp bytes k has two.0 one.0)
one_way old contents n stamp (stored bytes) next h k w v has told (inr one) (inr two) =
    (one.1 ∙ sym two.1, one.2.3 ∙ ap (λ b. b ∷ []) (one.2.1 ∙ sym two.2.1) ∙ sym two.2.3)

brought_way : (old : Stored) (contents : Home → List ℕ) (depot : DepotState) (n : ℕ) (held : HeldFile) (next : ℕ) (a b : HeldFile) (w v : List (List ℕ)) → HasBytes old contents → brought_told depot held.body ≢ untold
    → IsBroughtTo old depot n held next a w → IsBroughtTo old depot n held next b v → (a ≡ b) × (w ≡ v)
brought_way old contents depot n held next a b w v has told one two =
    let same = one_way old contents n held.stamp (brought_told depot held.body) next one.0 two.0 w v has told one.1 two.1 in
    (one.2 ∙ ap (λ (h : Home). record { stamp = held.stamp; body = Kept h }) same.0 ∙ sym two.2, same.1)

pub stored_told : (xs : List ℕ) → stored xs ≢ untold
stored_told xs same = cc

missing_told : missing ≢ untold
missing_told same = cc

depot_tells : (files : Files) (path : List (List ℕ)) → contents_told (Some files) path ≢ untold
depot_tells files path = by_file (files path)
  where
    by_file : (o : Option (List ℕ)) → bytes_told o ≢ untold
    by_file None = missing_told
    by_file (Some bytes) = stored_told bytes

pub brought_tells : (depot : DepotState) (files : Files) → depot.contents ≡ Some files → (path : List (List ℕ)) → brought_told depot (Depot path) ≢ untold
brought_tells depot files is path same = depot_tells files path (sym (ap (λ c. contents_told c path) is) ∙ same)

body_way : (old : Stored) (contents : Home → List ℕ) (depot : DepotState) (files : Files) (n : ℕ) (stamp : Stamp) (body : Body) (next : ℕ) (a b : HeldFile) (w v : List (List ℕ)) → HasBytes old contents
    → depot.contents ≡ Some files → IsBodyPlaced old depot n (record { stamp = stamp; body = body }) body next a w → IsBodyPlaced old depot n (record { stamp = stamp; body = body }) body next b v → (a ≡ b) × (w ≡ v)
body_way old contents depot files n stamp (Here bytes) next a b w v has is one two = brought_way old contents depot n (record { stamp = stamp; body = Here bytes }) next a b w v has (stored_told bytes) one two
body_way old contents depot files n stamp (Kept home) next a b w v has is one two = (one.0 ∙ sym two.0, one.1 ∙ sym two.1)
body_way old contents depot files n stamp (Depot path) next a b w v has is one two = brought_way old contents depot n (record { stamp = stamp; body = Depot path }) next a b w v has (brought_tells depot files is path) one two

entry_way : (old : Stored) (contents : Home → List ℕ) (depot : DepotState) (files : Files) (n : ℕ) (e : Entry HeldFile) (next : ℕ) (a b : Entry HeldFile) (w v : List (List ℕ)) → HasBytes old contents
    → depot.contents ≡ Some files → IsEntryPlaced old depot n e next a w → IsEntryPlaced old depot n e next b v → (a ≡ b) × (w ≡ v)
entry_way old contents depot files n (Dir attributes) next a b w v has is one two = (one.0 ∙ sym two.0, one.1 ∙ sym two.1)
entry_way old contents depot files n (Opaque attributes) next a b w v has is one two = (one.0 ∙ sym two.0, one.1 ∙ sym two.1)
entry_way old contents depot files n (File attributes held) next a b w v has is one two =
    let same = body_way old contents depot files n held.stamp held.body next one.0 two.0 w v has is one.1 two.1 in
    (one.2 ∙ ap (λ (h : HeldFile). File attributes h) same.0 ∙ sym two.2, same.1)
entry_way old contents depot files n (Link owner target) next a b w v has is one two = (one.0 ∙ sym two.0, one.1 ∙ sym two.1)
entry_way old contents depot files n Hide next a b w v has is one two = (one.0 ∙ sym two.0, one.1 ∙ sym two.1)

entries_way : (old : Stored) (contents : Home → List ℕ) (depot : DepotState) (files : Files) (n : ℕ) (es : Entries HeldFile) (next : ℕ) (a b : Entries HeldFile) (w v : List (List ℕ)) → HasBytes old contents
    → depot.contents ≡ Some files → ArePlaced old depot n es next a w → ArePlaced old depot n es next b v → (a ≡ b) × (w ≡ v)
entries_way old contents depot files n [] next a b w v has is one two = (one.0 ∙ sym two.0, one.1 ∙ sym two.1)
entries_way old contents depot files n (e ∷ es) next a b w v has is one two =
    let here = entry_way old contents depot files n e.1 next one.0 two.0 one.2 two.2 has is one.4 two.4 in
    let rest = entries_way old contents depot files n es (next + length two.2) one.1 two.1 one.3 two.3 has is (subst (λ l. ArePlaced old depot n es (next + length l) one.1 one.3) here.1 one.5) two.5 in (
      one.6 ∙ (λ i. (e.0, here.0 i) ∷ rest.0 i) ∙ sym two.6,
      one.7 ∙ (λ i. here.1 i ++ rest.1 i) ∙ sym two.7,
    )

-- a host whose files are told is placed in one way
pub host_way : (old : Stored) (contents : Home → List ℕ) (depot : DepotState) (files : Files) (n : ℕ) (host a b : Host) (w v : List (List ℕ)) → HasBytes old contents
    → depot.contents ≡ Some files → IsHostPlaced old depot n host a w → IsHostPlaced old depot n host b v → (a ≡ b) × (w ≡ v)
host_way old contents depot files n host a b w v has is one two =
    let x = one.2 in
    let y = two.2 in
    let root = entries_way old contents depot files n host.root 0 one.0 two.0 x.0 y.0 has is x.2 y.2 in
    let lower = entries_way old contents depot files n host.lower (0 + length y.0) one.1 two.1 x.1 y.1 has is (subst (λ l. ArePlaced old depot n host.lower (0 + length l) one.1 x.1) root.1 x.3) y.3 in (
      one.3 ∙ (λ i. record host { root = root.0 i; lower = lower.0 i }) ∙ sym two.3,
      x.4 ∙ (λ i. root.1 i ++ lower.1 i) ∙ sym y.4,
    )
