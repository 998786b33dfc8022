-- Offers by version and name, and of each version the first one.
use Rattle.std.proofs.Common.{◌≡◌, ◌≢◌, ◌⊎◌, inl, inr, ℕ, zero, suc, ◌<◌, ◌≤◌, Bool, true, false, cond, List, [], ◌∷◌, length, get_or, map, Option, Some, None, refl, sym, ap, subst, ◌∙◌, arith}
use Rattle.std.specs.Prelude.{IsSome}
use Rattle.std.specs.Cmp.{tied_itself, then_total, on_total, IsTotalOrder}
use Rattle.std.specs.List.{All, AllByRecursion, Contains, dedup, dedup_from}
use Rattle.std.specs.List.Sorted.{IsPermutation, IsSortedBy, IsStrictlySortedBy}
use Rattle.std.specs.Ordering.{is_lt, ordering_reverse, ordering_then}
use Rattle.std.specs.declared.cmp.Ordering.{Ordering}
use Rattle.std.specs.declared.cmp.Ordering.TheVariants.{Less, Equal, Greater}
use Rattle.std.specs.Str.{bytes_eq}
use Rattle.std.proofs.lemmas.Bool.{false≢true, true≢false}
use Rattle.std.proofs.lemmas.List.Elements.{All-contains, All-from_recursion, recursion_from_All}
use Rattle.std.proofs.lemmas.List.Sorted.{Contains-permutation, IsPermutation-sym, ranks_by, sorted_far}
use Rattle.ext_lines.specs.ByteOrder.{bytes_cmp, bytes_total}
use Rattle.ext_vers.specs.Order.{orders_exact, orders_total}
use Rattle.ext_vers.specs.Version.{order_of}
use Rattle.ext_available.specs.declared.offer.Offer.{Offer}
use Rattle.ext_available.specs.Candidates.{AreLeast, IsLeastOf, offer_cmp}
use Rattle.ext_available.specs.Offers.{AreAscending, find_offer, offered_versions}
use Rattle.ext_available.proofs.VersionLemmas.{equal_bytes, equal_versions, same_bytes}

-- whether two offers are of one version
abbrev pub of_one_version : Offer → Offer → Bool
of_one_version a b = bytes_eq a.version b.version

-- the order of versions and names is total
pub offers_total : IsTotalOrder offer_cmp
offers_total = then_total (on_total (λ (o : Offer). o.version) orders_total) (on_total (λ (o : Offer). o.name) bytes_total)

-- none of the later offers is below an earlier one
abbrev pub AreSorted : List Offer → Type 0
AreSorted [] = Unit {0}
AreSorted (o ∷ os) = AllByRecursion (λ x. is_lt (offer_cmp x o) ≡ false) os × AreSorted os

-- offers of which no later one is below an earlier one
sorted_pairs : (os : List Offer) → ((i j : ℕ) (d : Offer) → i ≤ j → j < length os → is_lt (offer_cmp (get_or os j d) (get_or os i d)) ≡ false) → AreSorted os
sorted_pairs [] h = tt
sorted_pairs (o ∷ os) h = (
  recursion_from_All (λ x. is_lt (offer_cmp x o) ≡ false) os (λ k d below. h zero (suc k) d (omega arith) (omega arith)),
  sorted_pairs os (λ i j d le below. h (suc i) (suc j) d (omega arith) (omega arith)),
)

-- what a sort gives
pub sorted_offers : (os : List Offer) → IsSortedBy (λ x y. is_lt (offer_cmp x y)) os → AreSorted os
sorted_offers os h = sorted_pairs os (sorted_far (λ x y. is_lt (offer_cmp x y)) (ranks_by offers_total (λ (x : Offer). x)) os h)

found_after : (k x : Offer) (os : List Offer) (v : List ℕ) → of_one_version x k ≡ true → find_offer (k ∷ os) v ≡ find_offer (k ∷ x ∷ os) v
found_after k x os v same =
    elim (bytes_eq k.version v) as (λ b. bytes_eq k.version v ≡ b → cond b (Some k) (find_offer os v) ≡ cond b (Some k) (find_offer (x ∷ os) v)) [
      | true ↦ λ _. refl
      | false ↦ λ other. sym (ap (λ b. cond b (Some x) (find_offer os v)) (ap (λ (w : List ℕ). bytes_eq w v) (equal_bytes x.version k.version same) ∙ other))
    ] refl

found_first : (k : Offer) (os : List Offer) (v : List ℕ) → find_offer (dedup_from of_one_version k os) v ≡ find_offer (k ∷ os) v
found_first k [] v = refl
found_first k (x ∷ os) v =
    elim (of_one_version x k) as (λ b. of_one_version x k ≡ b → find_offer (cond b (dedup_from of_one_version k os) (k ∷ dedup_from of_one_version x os)) v ≡ find_offer (k ∷ x ∷ os) v) [
      | true ↦ λ same. found_first k os v ∙ found_after k x os v same
      | false ↦ λ _. ap (λ (r : Option Offer). cond (bytes_eq k.version v) (Some k) r) (found_first x os v)
    ] refl

-- where the first offer of each version is left, the same is found
pub found_in_dedup : (os : List Offer) (v : List ℕ) → find_offer (dedup of_one_version os) v ≡ find_offer os v
found_in_dedup [] v = refl
found_in_dedup (o ∷ os) v = found_first o os v

all_left : (P : List ℕ → Type 0) (k : Offer) (os : List Offer) → P k.version → AllByRecursion (λ x. P x.version) os → AllByRecursion P (offered_versions (dedup_from of_one_version k os))
all_left P k [] here all = (here, tt)
all_left P k (x ∷ os) here all =
    elim (of_one_version x k) as (λ b. AllByRecursion P (offered_versions (cond b (dedup_from of_one_version k os) (k ∷ dedup_from of_one_version x os)))) [
      | true ↦ all_left P k os here all.1
      | false ↦ (here, all_left P x os all.0 all.1)
    ]

not_less : (a b : Ordering) → is_lt (ordering_then a b) ≡ false → (a ≡ Equal) ⊎ (a ≡ Greater)
not_less Less b h = absurd (true≢false h)
not_less Equal b h = inl refl
not_less Greater b h = inr refl

-- an offer that is not below another, and of another version, is of a greater one
greater : (k x : Offer) → is_lt (offer_cmp x k) ≡ false → of_one_version x k ≡ false → order_of k.version x.version ≡ Less
greater k x not other = elim (not_less (order_of x.version k.version) (bytes_cmp x.name k.name) not) [
  | inl tie ↦ absurd (false≢true (sym other ∙ equal_versions x.version k.version tie))
  | inr above ↦ orders_total.antisymm k.version x.version ∙ ap ordering_reverse above
]

-- and one that is not below that is of a greater one too
greater_still : (k x y : Offer) → order_of k.version x.version ≡ Less → is_lt (offer_cmp y x) ≡ false → order_of k.version y.version ≡ Less
greater_still k x y less not = elim (not_less (order_of y.version x.version) (bytes_cmp y.name x.name) not) [
  | inl tie ↦ subst (λ (v : List ℕ). order_of k.version v ≡ Less) (sym (orders_exact y.version x.version tie)) less
  | inr above ↦ orders_total.trans k.version x.version y.version less (orders_total.antisymm x.version y.version ∙ ap ordering_reverse above)
]

all_greater : (k x : Offer) (os : List Offer) → order_of k.version x.version ≡ Less → AllByRecursion (λ y. is_lt (offer_cmp y x) ≡ false) os → AllByRecursion (λ y. order_of k.version y.version ≡ Less) os
all_greater k x [] less all = tt
all_greater k x (y ∷ os) less all = (greater_still k x y less all.0, all_greater k x os less all.1)

ascending_from : (k : Offer) (os : List Offer) → AreSorted (k ∷ os) → IsStrictlySortedBy order_of (offered_versions (dedup_from of_one_version k os))
unfolding IsStrictlySortedBy
ascending_from k [] sorted = (tt, tt)
ascending_from k (x ∷ os) sorted =
    elim (of_one_version x k) as (λ b. of_one_version x k ≡ b → IsStrictlySortedBy order_of (offered_versions (cond b (dedup_from of_one_version k os) (k ∷ dedup_from of_one_version x os)))) [
      | true ↦ λ _. ascending_from k os (sorted.0.1, sorted.1.1)
      | false ↦ λ other.
          let less = greater k x sorted.0.0 other in
          (all_left (λ v. order_of k.version v ≡ Less) x os less (all_greater k x os less sorted.1.0), ascending_from x os sorted.1)
    ] refl

-- what is left of sorted offers ascends
pub ascending_dedup : (os : List Offer) → AreSorted os → AreAscending (dedup of_one_version os)
unfolding IsStrictlySortedBy
ascending_dedup [] sorted = tt
ascending_dedup (o ∷ os) sorted = ascending_from o os sorted

-- an element of a longer list
pub contains_cases : (x y : Offer) (os : List Offer) → Contains (x ∷ os) y → (x ≡ y) ⊎ Contains os y
contains_cases x y os (zero, below, is) = inl is
contains_cases x y os (suc k, below, is) = inr (k, omega arith, is)

pub contains_here : (x : Offer) (os : List Offer) → Contains (x ∷ os) x
contains_here x os = (zero, omega arith, refl)

pub contains_later : (x y : Offer) (os : List Offer) → Contains os y → Contains (x ∷ os) y
contains_later x y os (k, below, is) = (suc k, omega arith, is)

named_after : (k x : Offer) → is_lt (offer_cmp x k) ≡ false → x.version ≡ k.version → bytes_cmp x.name k.name ≢ Less
named_after k x not same less =
    true≢false (sym (ap is_lt (ap (λ (r : Ordering). ordering_then r (bytes_cmp x.name k.name)) (ap (λ (v : List ℕ). order_of v k.version) same ∙ tied_itself orders_total k.version) ∙ less)) ∙ not)

not_below_itself : (name : List ℕ) → bytes_cmp name name ≢ Less
not_below_itself name less = true≢false (ap is_lt (sym less) ∙ ap is_lt (tied_itself bytes_total name))

first_least : (k : Offer) (os : List Offer) → AreSorted (k ∷ os) → IsLeastOf (k ∷ os) k
first_least k os sorted = record {
  there = contains_here k os;
  least = λ x has same. elim (contains_cases k x os has) [
    | inl is ↦ subst (λ (y : Offer). bytes_cmp y.name k.name ≢ Less) is (not_below_itself k.name)
    | inr later ↦ named_after k x (All-contains (λ y. is_lt (offer_cmp y k) ≡ false) os x (All-from_recursion (λ y. is_lt (offer_cmp y k) ≡ false) os sorted.0) later) same
  ];
}

-- what is found among sorted offers has the least name of its version
pub found_least : (os : List Offer) (o : Offer) → AreSorted os → find_offer os o.version ≡ Some o → IsLeastOf os o
found_least [] o sorted found = absurd (cc found)
found_least (k ∷ os) o sorted found =
    elim (bytes_eq k.version o.version) as (λ b. bytes_eq k.version o.version ≡ b → cond b (Some k) (find_offer os o.version) ≡ Some o → IsLeastOf (k ∷ os) o) [
      | true ↦ λ _ here. subst (IsLeastOf (k ∷ os)) (let same : k ≡ o = cc here in same) (first_least k os sorted)
      | false ↦ λ other later. longer (found_least os o sorted.1 later) other
    ] refl found
  where
    longer : IsLeastOf os o → bytes_eq k.version o.version ≡ false → IsLeastOf (k ∷ os) o
    longer is other = record {
      there = contains_later k o os is.there;
      least = λ x has same. elim (contains_cases k x os has) [
        | inl here ↦ absurd (false≢true (sym other ∙ subst (λ (v : List ℕ). bytes_eq v o.version ≡ true) (sym (ap (λ (y : Offer). y.version) here ∙ same)) (same_bytes o.version)))
        | inr later ↦ is.least x later same
      ];
    }

-- each offer's version is found
pub version_found : (os : List Offer) (x : Offer) → Contains os x → IsSome (find_offer os x.version)
version_found [] x (k, below, is) = absurd (omega arith)
version_found (o ∷ os) x has =
    elim (bytes_eq o.version x.version) as (λ b. bytes_eq o.version x.version ≡ b → IsSome (cond b (Some o) (find_offer os x.version))) [
      | true ↦ λ _. refl
      | false ↦ λ other. elim (contains_cases o x os has) [
        | inl here ↦ absurd (false≢true (sym other ∙ subst (λ (y : Offer). bytes_eq o.version y.version ≡ true) here (same_bytes o.version)))
        | inr later ↦ version_found os x later
      ]
    ] refl

least_again : (old new : List Offer) (o : Offer) → IsPermutation old new → IsLeastOf new o → IsLeastOf old o
least_again old new o moved is = record {
  there = Contains-permutation new old o (IsPermutation-sym old new moved) is.there;
  least = λ x has same. is.least x (Contains-permutation old new x moved has) same;
}

-- the first of each version, once the offers are sorted, has the least name of it
pub are_least : (old sorted : List Offer) → IsPermutation old sorted → AreSorted sorted → AreLeast old (dedup of_one_version sorted)
are_least old sorted moved is = record {
  ascending = ascending_dedup sorted is;
  found = λ o found. least_again old sorted o moved (found_least sorted o is (sym (found_in_dedup sorted o.version) ∙ found));
  each = λ x has. subst IsSome (sym (found_in_dedup sorted x.version)) (version_found sorted x (Contains-permutation old sorted x moved has));
}
