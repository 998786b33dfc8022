-- How many bytes are written of the files of a host that is placed, where all is told.
use Rattle.std.proofs.Common.{◌≡◌, ◌≢◌, ◌⊎◌, ℕ, ◌+◌, List, [], ◌∷◌, length, Some, refl, sym, ap, ◌∙◌, subst, inl, inr, arith}
use Rattle.std.specs.List.{sum_by}
use Rattle.std.proofs.lemmas.List.Sums.{sum_by-append}
use Rattle.ext_depot.specs.Depot.{DepotState, Files}
use Rattle.ext_tree.specs.Tree.{Entries}
use Rattle.ext_tree.specs.declared.entry.Entry.{Entry}
use Rattle.ext_tree.specs.declared.entry.Entry.TheVariants.{Dir, Opaque, File, Link, Hide}
use Rattle.ext_tree.specs.declared.stamp.Stamp.{Stamp}
use Rattle.ext_host.specs.Held.{HeldFile, IsStampOf}
use Rattle.ext_host.specs.Shelf as shelf
use Rattle.ext_host.specs.Shelf.{missing, stored, untold}
use Rattle.ext_host.specs.declared.body.Body.{Body}
use Rattle.ext_host.specs.declared.body.Body.TheVariants.{Here, Kept, Depot}
use Rattle.ext_host.specs.declared.home.Home.{Home}
use Rattle.ext_host.specs.declared.host.Host.{Host}
use Rattle.ext_homes.specs.Laws.{HasBytes, HasNowhere, IsLeastOf, IsNewBody, IsNewEntry, IsNewSize, SizesOfNew}
use Rattle.ext_homes.specs.Placed.{Stored, ArePlaced, IsBodyPlaced, IsEntryPlaced, IsHostPlaced, TakesHome, brought_told}
use Rattle.ext_homes.proofs.LawsLemmas.{brought_tells, stored_told, takes_of_bytes}

-- brought bytes have the listed stamp, whether they are written or not
stamped_of : (old : Stored) (n : ℕ) (stamp : Stamp) (bytes : List ℕ) (next : ℕ) (home : Home) (written : List (List ℕ)) → TakesHome old n stamp (stored bytes) next home written → IsStampOf bytes stamp
stamped_of old n stamp bytes next home written (inl is) = is.0.same.1
stamped_of old n stamp bytes next home written (inr is) = subst (λ b. IsStampOf b stamp) is.2.1 is.2.2

one_sum : (bytes : List ℕ) → sum_by length (bytes ∷ []) ≡ length bytes
one_sum bytes = omega arith

-- as many bytes are written for a file as are new
by_bytes : (old : Stored) (contents : Home → List ℕ) (n : ℕ) (stamp : Stamp) (bytes : List ℕ) (next : ℕ) (home : Home) (written : List (List ℕ)) → stamp.size ≡ length bytes
    → (IsLeastOf old contents bytes home × (written ≡ [])) ⊎ (HasNowhere old contents bytes × (home ≡ record { generation = n; file = next }) × (written ≡ bytes ∷ []))
    → (m : ℕ) × IsNewSize old contents (stored bytes) stamp m × (sum_by length written ≡ m)
by_bytes old contents n stamp bytes next home written size (inl is) = (0, (bytes, refl, inr ((home, is.0), refl)), ap (λ w. sum_by length w) is.1)
by_bytes old contents n stamp bytes next home written size (inr is) = (stamp.size, (bytes, refl, inl (is.0, refl)), ap (λ w. sum_by length w) is.2 ∙ one_sum bytes ∙ sym size)

takes_new : (old : Stored) (contents : Home → List ℕ) (n : ℕ) (stamp : Stamp) (told : shelf.Told) (next : ℕ) (home : Home) (written : List (List ℕ)) → HasBytes old contents → told ≢ untold
    → TakesHome old n stamp told next home written → (m : ℕ) × IsNewSize old contents told stamp m × (sum_by length written ≡ m)
takes_new old contents n stamp untold next home written has tells takes = absurd (tells refl)
takes_new old contents n stamp missing next home written has tells (inl is) = absurd is.0.same.1
takes_new old contents n stamp missing next home written has tells (inr is) = absurd is.2.1
takes_new old contents n stamp (stored bytes) next home written has tells takes =
    by_bytes old contents n stamp bytes next home written (stamped_of old n stamp bytes next home written takes).size (takes_of_bytes old contents has n next stamp bytes home written takes)

body_new : (old : Stored) (contents : Home → List ℕ) (depot : DepotState) (files : Files) (n : ℕ) (stamp : Stamp) (body : Body) (next : ℕ) (new : HeldFile) (written : List (List ℕ)) → HasBytes old contents
    → depot.contents ≡ Some files → IsBodyPlaced old depot n (record { stamp = stamp; body = body }) body next new written
    → (m : ℕ) × IsNewBody old contents depot stamp body m × (sum_by length written ≡ m)
body_new old contents depot files n stamp (Here bytes) next new written has is placed = takes_new old contents n stamp (stored bytes) next placed.0 written has (stored_told bytes) placed.1
body_new old contents depot files n stamp (Kept home) next new written has is placed = (0, refl, ap (λ w. sum_by length w) placed.1)
body_new old contents depot files n stamp (Depot path) next new written has is placed =
    takes_new old contents n stamp (brought_told depot (Depot path)) next placed.0 written has (brought_tells depot files is path) placed.1

entry_new : (old : Stored) (contents : Home → List ℕ) (depot : DepotState) (files : Files) (n : ℕ) (e : Entry HeldFile) (next : ℕ) (new : Entry HeldFile) (written : List (List ℕ)) → HasBytes old contents
    → depot.contents ≡ Some files → IsEntryPlaced old depot n e next new written → (m : ℕ) × IsNewEntry old contents depot e m × (sum_by length written ≡ m)
entry_new old contents depot files n (Dir attributes) next new written has is placed = (0, refl, ap (λ w. sum_by length w) placed.1)
entry_new old contents depot files n (Opaque attributes) next new written has is placed = (0, refl, ap (λ w. sum_by length w) placed.1)
entry_new old contents depot files n (File attributes held) next new written has is placed = body_new old contents depot files n held.stamp held.body next placed.0 written has is placed.1
entry_new old contents depot files n (Link owner target) next new written has is placed = (0, refl, ap (λ w. sum_by length w) placed.1)
entry_new old contents depot files n Hide next new written has is placed = (0, refl, ap (λ w. sum_by length w) placed.1)

entries_new : (old : Stored) (contents : Home → List ℕ) (depot : DepotState) (files : Files) (n : ℕ) (es : Entries HeldFile) (next : ℕ) (new : Entries HeldFile) (written : List (List ℕ)) → HasBytes old contents
    → depot.contents ≡ Some files → ArePlaced old depot n es next new written → (m : ℕ) × SizesOfNew old contents depot es m × (sum_by length written ≡ m)
entries_new old contents depot files n [] next new written has is placed = (0, refl, ap (λ w. sum_by length w) placed.1)
entries_new old contents depot files n (e ∷ es) next new written has is placed =
    let first = entry_new old contents depot files n e.1 next placed.0 placed.2 has is placed.4 in
    let rest = entries_new old contents depot files n es (next + length placed.2) placed.1 placed.3 has is placed.5 in (
      first.0 + rest.0,
      (first.0, rest.0, first.1, rest.1, refl),
      ap (λ w. sum_by length w) placed.7 ∙ sum_by-append length placed.2 placed.3 ∙ (λ i. first.2 i + rest.2 i),
    )

-- what a host writes that is placed is as much as is new in its root and its lower
pub host_new : (old : Stored) (contents : Home → List ℕ) (depot : DepotState) (files : Files) (n : ℕ) (host new : Host) (written : List (List ℕ)) → HasBytes old contents
    → depot.contents ≡ Some files → IsHostPlaced old depot n host new written
    → (root : ℕ) × (lower : ℕ) × SizesOfNew old contents depot host.root root × SizesOfNew old contents depot host.lower lower × (sum_by length written ≡ root + lower)
host_new old contents depot files n host new written has is placed =
    let both = placed.2 in
    let root = entries_new old contents depot files n host.root 0 placed.0 both.0 has is both.2 in
    let lower = entries_new old contents depot files n host.lower (0 + length both.0) placed.1 both.1 has is both.3 in
    (root.0, lower.0, root.1, lower.1, ap (λ w. sum_by length w) both.4 ∙ sum_by-append length both.0 both.1 ∙ (λ i. root.2 i + lower.2 i))
