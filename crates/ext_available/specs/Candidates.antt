-- The names of a manifest that a transfer reads as versions, and of each version the one that counts.
use Rattle.std.specs.Prelude.{◌≡◌, ◌≢◌, ◌↔◌, ℕ, ◌≤◌, List, [], ◌∷◌, length, Option, Some, IsSome}
use Rattle.std.specs.List.{Contains, cons_option}
use Rattle.std.specs.Ordering.{ordering_then}
use Rattle.std.specs.declared.cmp.Ordering.{Ordering}
use Rattle.std.specs.declared.cmp.Ordering.TheVariants.{Less}
use Rattle.ext_text.specs.Name.{IsName, bytes_cmp}
use Rattle.ext_text.specs.declared.digest.Digest.{Digest}
use Rattle.ext_vers.specs.Version.{order_of}
use Rattle.ext_sums.specs.Sums.{listed_entry}
use Rattle.ext_sums.specs.declared.sums.Listed.{Listed}
use Rattle.ext_transfer.specs.declared.transfer.ResourceType.{ResourceType}
use Rattle.ext_transfer.specs.declared.transfer.Transfer.{Transfer}
use Rattle.ext_available.specs.declared.offer.Offer.{Offer}
use Rattle.ext_available.specs.Offers.{AreAscending, find_offer}
use Rattle.ext_available.specs.Resource.{IsReadAs, listed_name}

-- a resource of this name is listed by that one, which is short enough to be a name
pub record IsListedBy (resources : ResourceType) (listed name : List ℕ) : Type 0 where
  pub listed_is : listed ≡ listed_name resources name
  pub at_most_255 : length listed ≤ 255

-- an offer of a version and a digest by a name
pub record IsNamedOffer (name version : List ℕ) (digest : Digest) (o : Offer) : Type 0 where
  pub is_name : IsName name
  pub offer_is : o ≡ record { version = version; name = name; digest = digest }

-- what a line of a manifest offers: a resource that is listed by its name, with its digest, and read as a version
pub record IsOfferOf (transfer : Transfer) (line : Listed) (o : Offer) : Type 0 where
  pub resource : IsName o.name
  pub listed : IsName (listed_name transfer.resources o.name)
  pub line_is : listed_entry line ≡ (listed_name transfer.resources o.name, o.digest.0)
  pub read : IsReadAs transfer o.version o.name o.digest.0

-- a line offers this and nothing else; it may offer nothing
abbrev pub OffersJust : Transfer → Listed → Option Offer → Type 0
OffersJust transfer line found = (o : Offer) → IsOfferOf transfer line o ↔ (found ≡ Some o)

-- what lines offer, in their order
abbrev pub AreOffersOf : Transfer → List Listed → List Offer → Type 0
AreOffersOf transfer [] offers = offers ≡ []
AreOffersOf transfer (line ∷ lines) offers =
    (found : Option Offer) × (rest : List Offer) × OffersJust transfer line found × AreOffersOf transfer lines rest × (offers ≡ cons_option found rest)

-- by version, and those of one version by name
abbrev pub offer_cmp : Offer → Offer → Ordering
offer_cmp a b = ordering_then (order_of a.version b.version) (bytes_cmp a.name b.name)

-- an offer is among these, and none of them is of its version with a smaller name
pub record IsLeastOf (all : List Offer) (o : Offer) : Type 0 where
  pub there : Contains all o
  pub least : (x : Offer) → Contains all x → x.version ≡ o.version → bytes_cmp x.name o.name ≢ Less

-- of each version the offer with the least name, ascending
pub record AreLeast (all offers : List Offer) : Type 0 where
  pub ascending : AreAscending offers
  pub found : (o : Offer) → find_offer offers o.version ≡ Some o → IsLeastOf all o
  pub each : (x : Offer) → Contains all x → IsSome (find_offer offers x.version)
