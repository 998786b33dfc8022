-- Which versions can be taken over: those that each source offers, and that are not below a transfer's MinVersion=, after
-- sysupdate.d(5), section [Transfer]. That equal versions of other bytes are two versions is this project's own.
use Rattle.std.specs.Prelude.{◌≡◌, ◌≢◌, ◌↔◌, ℕ, true, List, IfSome, IsSome}
use Rattle.std.specs.List.{AllByRecursion}
use Rattle.std.specs.List.Sorted.{IsStrictlySortedBy}
use Rattle.std.specs.declared.cmp.Ordering.TheVariants.{Greater}
use Rattle.ext_vers.specs.Version.{order_of, version_cmp}
use Rattle.ext_versions.specs.Versions.{has_version}
use Rattle.ext_transfer.specs.declared.transfer.Transfer.{Transfer}
use Rattle.ext_available.specs.declared.offer.Offer.{Offer}
use Rattle.ext_available.specs.Offers.{find_offer}

-- a source offers the version
abbrev pub IsOffered : List ℕ → List Offer → Type 0
IsOffered version offers = IsSome (find_offer offers version)

-- the least version of a transfer, if one is set, is not above the version
abbrev pub IsNotBelow : List ℕ → Transfer → Type 0
IsNotBelow version transfer = IfSome transfer.min (λ least. version_cmp least version ≢ Greater)

-- each source offers the version, and no transfer has a greater least version
pub record IsAvailable (transfers : List Transfer) (offers : List (List Offer)) (version : List ℕ) : Type 0 where
  pub offered : AllByRecursion (IsOffered version) offers
  pub least : AllByRecursion (IsNotBelow version) transfers

-- the versions that are available, each once, ascending
pub record AreAvailable (transfers : List Transfer) (offers : List (List Offer)) (versions : List (List ℕ)) : Type 0 where
  pub order : IsStrictlySortedBy order_of versions
  pub each : (v : List ℕ) → (has_version versions v ≡ true) ↔ IsAvailable transfers offers v

-- of these versions, those that are available
abbrev pub AreThoseOf : List Transfer → List (List Offer) → List (List ℕ) → List (List ℕ) → Type 0
AreThoseOf transfers offers versions found =
    (v : List ℕ) → (has_version found v ≡ true) ↔ ((has_version versions v ≡ true) × IsAvailable transfers offers v)
