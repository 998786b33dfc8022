-- What sources offer is one, and what is offered is a version of a name.
use Rattle.std.specs.Prelude.{◌≡◌, ℕ, List, Some, Result}
use Rattle.ext_text.specs.Name.{IsName}
use Rattle.ext_vers.specs.Version.{IsVersion}
use Rattle.ext_sums.specs.Sums.{Entries}
use Rattle.ext_depot.specs.Depot.{Files}
use Rattle.ext_transfer.specs.declared.transfer.Transfer.{Transfer}
use Rattle.ext_available.specs.declared.offer.Offer.{Offer}
use Rattle.ext_available.specs.declared.offers_err.OffersErr.{OffersErr}
use Rattle.ext_available.specs.Available.{AreAvailable}
use Rattle.ext_available.specs.Offers.{AreOffers, find_offer}
use Rattle.ext_available.specs.Reading.{AreTold}
use Rattle.ext_available.specs.Resource.{Has}

-- two lists that both are what a source offers by a manifest are equal
abbrev pub OneOffers : Type 0
OneOffers = (sums : Entries) (transfer : Transfer) (a b : List Offer) → AreOffers sums transfer a → AreOffers sums transfer b → a ≡ b

-- a source has a version by one name, with one digest
abbrev pub HasOne : Type 0
HasOne =
    (sums : Entries) (transfer : Transfer) (version m n d e : List ℕ) → Has sums transfer version m d → Has sums transfer version n e
    → (m ≡ n) × (d ≡ e)

-- where the depot tells its files, the manifests of transfers tell one thing
abbrev pub OneTold : Type 0
OneTold = (files : Files) (transfers : List Transfer) (a b : Result (List (List Offer)) OffersErr) → AreTold (Some files) transfers a → AreTold (Some files) transfers b → a ≡ b

-- two lists that both are the versions that are available are equal
abbrev pub OneAvailable : Type 0
OneAvailable =
    (transfers : List Transfer) (offers : List (List Offer)) (a b : List (List ℕ)) → AreAvailable transfers offers a → AreAvailable transfers offers b
    → a ≡ b

-- what a source offers is a version, by a name, with a digest
abbrev pub OfferIsVersion : Type 0
OfferIsVersion =
    (sums : Entries) (transfer : Transfer) (offers : List Offer) (version : List ℕ) (o : Offer) → AreOffers sums transfer offers
    → find_offer offers version ≡ Some o → (o.version ≡ version) × IsVersion o.version × IsName o.name
