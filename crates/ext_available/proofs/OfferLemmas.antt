-- A search by halves among offers that ascend.
use Rattle.std.proofs.Common.{◌≡◌, ℕ, zero, suc, ◌<◌, ◌≤◌, true, false, cond, List, [], ◌∷◌, length, drop, get_or, Some, None, refl, sym, ap, ◌∙◌, arith}
use Rattle.std.specs.List.{AllByRecursion}
use Rattle.std.specs.List.Sorted.{IsPartitionedBy, IsPartitionPoint, IsStrictlySortedBy}
use Rattle.std.specs.Ordering.{is_lt, ordering_reverse}
use Rattle.std.specs.declared.cmp.Ordering.TheVariants.{Less, Equal, Greater}
use Rattle.std.specs.Str.{bytes_eq}
use Rattle.ext_text.proofs.ForCallers.{is_less}
use Rattle.ext_vers.specs.Order.{orders_exact, orders_total}
use Rattle.ext_vers.specs.Version.{order_of}
use Rattle.ext_available.specs.declared.offer.Offer.{Offer}
use Rattle.ext_available.specs.Offers.{AreAscending, offer_comes_before, find_offer, first_offer, offered_versions, offers_from}
use Rattle.ext_available.proofs.VersionLemmas.{below_version, equal_versions, other_version}

below_at : (v : List ℕ) (os : List Offer) (j : ℕ) (d : Offer) → AllByRecursion (λ w. order_of v w ≡ Less) (offered_versions os) → j < length os → order_of v (get_or os j d).version ≡ Less
below_at v [] j d h lt = absurd (omega arith)
below_at v (o ∷ os) zero d h lt = h.0
below_at v (o ∷ os) (suc j) d h lt = below_at v os j d h.1 (omega arith)

-- offers that ascend are parted by each version
pub partitioned : (v : List ℕ) (os : List Offer) → AreAscending os → IsPartitionedBy (offer_comes_before v) os
unfolding IsStrictlySortedBy
partitioned v [] h i j d le lt p = absurd (omega arith)
partitioned v (o ∷ os) h zero zero d le lt p = p
partitioned v (o ∷ os) h (suc i) zero d le lt p = absurd (omega arith)
partitioned v (o ∷ os) h zero (suc j) d le lt p =
    ap is_lt (orders_total.trans o.version (get_or os j d).version v (below_at o.version os j d h.0 (omega arith)) (is_less _ p))
partitioned v (o ∷ os) h (suc i) (suc j) d le lt p = partitioned v os h.1 i j d (omega arith) (omega arith) p

-- what stands from where the offers are parted
pub from_split : (v : List ℕ) (os : List Offer) (i : ℕ) → i ≤ length os → IsPartitionPoint (λ o. offer_comes_before v o ≡ true) (λ o. offer_comes_before v o ≡ false) os i → drop i os ≡ offers_from v os
from_split v [] zero h at = refl
from_split v [] (suc i) h at = absurd (omega arith)
from_split v (o ∷ os) zero h at = sym (ap (λ b. cond b (offers_from v os) (o ∷ os)) (at.1 zero o (omega arith) (omega arith)))
from_split v (o ∷ os) (suc i) h at =
    from_split v os i (omega arith) ((λ j d low high. at.0 (suc j) d (omega arith) (omega arith)), (λ j d low high. at.1 (suc j) d (omega arith) (omega arith)))
    ∙ sym (ap (λ b. cond b (offers_from v os) (o ∷ os)) (at.0 zero o (omega arith) (omega arith)))

-- a version below all of the offers is not found
pub unfound : (v w : List ℕ) (os : List Offer) → order_of v w ≡ Less → AllByRecursion (λ x. order_of w x ≡ Less) (offered_versions os) → find_offer os v ≡ None
unfound v w [] less below = refl
unfound v w (o ∷ os) less below =
    ap (λ b. cond b (Some o) (find_offer os v)) (other_version o.version v (orders_total.trans v w o.version less below.0)) ∙ unfound v w os less below.1

-- an offer is found at the first that does not come before the version, or nowhere
pub find_from : (v : List ℕ) (os : List Offer) → AreAscending os → first_offer v (offers_from v os) ≡ find_offer os v
unfolding IsStrictlySortedBy
find_from v [] h = refl
find_from v (o ∷ os) h =
    let turned : order_of v o.version ≡ ordering_reverse (order_of o.version v) = orders_total.antisymm v o.version in
    elim (order_of o.version v) as (λ r. order_of o.version v ≡ r → first_offer v (cond (is_lt r) (offers_from v os) (o ∷ os)) ≡ find_offer (o ∷ os) v) [
      | Less ↦ λ p. find_from v os h.1 ∙ sym (ap (λ b. cond b (Some o) (find_offer os v)) (below_version o.version v p))
      | Equal ↦ λ p. ap (λ b. cond b (Some o) None) (equal_versions o.version v p) ∙ sym (ap (λ b. cond b (Some o) (find_offer os v)) (equal_versions o.version v p))
      | Greater ↦ λ p. ap (λ rest. cond (bytes_eq o.version v) (Some o) rest) (sym (unfound v o.version os (turned ∙ ap ordering_reverse p) h.0))
    ] refl
