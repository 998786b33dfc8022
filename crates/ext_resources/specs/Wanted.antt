-- Which resources an update to a version takes from the depot: for each transfer that has no instance of the version the one that
-- its source offers. After sysupdate.d(5), sections [Source] and [Target]. That a transfer that has an instance takes nothing, and
-- where the depot has a resource, is this project's own.
use Rattle.std.specs.Prelude.{◌≡◌, ℕ, Bool, not, ◌&&◌, ◌==◌, List, [], ◌∷◌, ◌++◌, slice_get, Some}
use Rattle.std.specs.List.{filter, list_any, range_with_len}
use Rattle.std.specs.Str.{bytes_eq}
use Rattle.ext_sums.specs.Sums.{Entries}
use Rattle.ext_pattern.specs.Filling.{filled}
use Rattle.ext_pattern.specs.Pattern.{PatternView}
use Rattle.ext_transfer.specs.declared.transfer.Transfer.{Transfer}
use Rattle.ext_available.specs.declared.offer.Offer.{Offer}
use Rattle.ext_available.specs.Offers.{AreOffers, find_offer}
use Rattle.ext_available.specs.Resource.{listed_name}
use Rattle.ext_installed.specs.declared.instance.Instance.{Instance}

-- some manifest lists these offers for a transfer
abbrev pub AreListed : Transfer → List Offer → Type 0
AreListed transfer offers = (sums : Entries) × AreOffers sums transfer offers

-- an item is an instance of the version, of the transfer at a place
abbrev pub is_instance : List ℕ → ℕ → Instance → Bool
is_instance version place item = (item.transfer == place) && bytes_eq item.version version

-- the transfer at a place has an instance of the version
abbrev pub has_instance : List Instance → List ℕ → ℕ → Bool
has_instance items version place = list_any (is_instance version place) items

-- the places, ascending, of those of so many transfers that have no instance of the version
abbrev pub lacking_places : List Instance → List ℕ → ℕ → List ℕ
lacking_places items version count = filter (λ place. not (has_instance items version place)) (range_with_len 0 count)

-- what the source of the transfer at a place offers of the version
pub record IsOffer (transfers : List Transfer) (sources : List (List Offer)) (version : List ℕ) (place : ℕ) (transfer : Transfer)
    (offer : Offer) : Type 0 where
  pub offers : List Offer
  pub transfer_there : slice_get transfers place ≡ Some transfer
  pub offers_there : slice_get sources place ≡ Some offers
  pub found : find_offer offers version ≡ Some offer

-- the name that the first of the patterns makes of a version and a digest; a transfer has patterns
abbrev pub first_filled : List PatternView → List ℕ → List ℕ → List ℕ
first_filled [] version digest = []
first_filled (p ∷ ps) version digest = filled p version digest

-- the path of a resource in the depot
abbrev pub resource_path : Transfer → Offer → List (List ℕ)
resource_path transfer offer = transfer.source.path ++ offer.name ∷ []

-- the path of what is listed of it: of the file itself, or of the text of the directory's tree
abbrev pub listed_path : Transfer → Offer → List (List ℕ)
listed_path transfer offer = transfer.source.path ++ listed_name transfer.resources offer.name ∷ []
