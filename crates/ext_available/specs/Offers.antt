-- What a source offers, in the order of versions.
use Rattle.std.specs.Prelude.{◌≡◌, ◌↔◌, ℕ, Bool, if◌then◌else◌, List, [], ◌∷◌, map, Option, Some, None}
use Rattle.std.specs.List.Sorted.{IsStrictlySortedBy}
use Rattle.std.specs.Ordering.{is_lt}
use Rattle.std.specs.Str.{bytes_eq}
use Rattle.ext_sums.specs.Sums.{Entries}
use Rattle.ext_vers.specs.Version.{order_of}
use Rattle.ext_transfer.specs.declared.transfer.Transfer.{Transfer}
use Rattle.ext_available.specs.declared.offer.Offer.{Offer}
use Rattle.ext_available.specs.Resource.{Has}

-- the versions of offers, in their order
abbrev pub offered_versions : List Offer → List (List ℕ)
offered_versions offers = map (λ o. o.version) offers

-- each version once, ascending, equal ones by their bytes
abbrev pub AreAscending : List Offer → Type 0
AreAscending offers = IsStrictlySortedBy order_of (offered_versions offers)

-- the first of the offers that has a version; None where none has it
abbrev pub find_offer : List Offer → List ℕ → Option Offer
find_offer [] version = None
find_offer (o ∷ os) version = if bytes_eq o.version version then Some o else find_offer os version

-- whether the version of an offer comes before this one
abbrev pub offer_comes_before : List ℕ → Offer → Bool
offer_comes_before version o = is_lt (order_of o.version version)

-- the offers from the first on whose version does not come before this one
abbrev pub offers_from : List ℕ → List Offer → List Offer
offers_from version [] = []
offers_from version (o ∷ os) = if offer_comes_before version o then offers_from version os else o ∷ os

-- the first of the offers, where that has the version
abbrev pub first_offer : List ℕ → List Offer → Option Offer
first_offer version [] = None
first_offer version (o ∷ os) = if bytes_eq o.version version then Some o else None

-- what a source offers by its manifest, each version once: what is found for a version is what the source has, and only that
pub record AreOffers (sums : Entries) (transfer : Transfer) (offers : List Offer) : Type 0 where
  pub ascending : AreAscending offers
  pub found : (o : Offer) → (find_offer offers o.version ≡ Some o) ↔ Has sums transfer o.version o.name o.digest.0
