-- What the sources of transfers offer, by the manifests in the depot. That a source is listed by the file `SHA256SUMS` in its path,
-- and that the first transfer whose manifest is none decides, is this project's own.
use Rattle.std.specs.Prelude.{◌≡◌, ◌⊎◌, ℕ, List, [], ◌∷◌, ◌++◌, codes, Option, Result, Ok, Err}
use Rattle.ext_text.specs.Causes.{Rose}
use Rattle.ext_depot.specs.Depot.{Files}
use Rattle.ext_depot.specs.DepotText.{IsTextIn}
use Rattle.ext_depot.specs.declared.depot_err.DepotErr.{DepotErr}
use Rattle.ext_depot.specs.declared.depot_err.DepotErr.TheVariants as depot_errors
use Rattle.ext_depot.specs.declared.depot_text.DepotText.{DepotText}
use Rattle.ext_depot.specs.declared.depot_text.DepotText.TheVariants as found
use Rattle.ext_sums.specs.Manifest.{IsFirstFault, IsManifest}
use Rattle.ext_sums.specs.Sums.{Entries}
use Rattle.ext_transfer.specs.declared.transfer.Transfer.{Transfer}
use Rattle.ext_available.specs.declared.offer.Offer.{Offer}
use Rattle.ext_available.specs.declared.offers_err.OffersErr.{OffersErr}
use Rattle.ext_available.specs.declared.offers_err.OffersErr.TheVariants.{OutOfMemory, Fault, NotInDepot, TooLong, BadManifest}
use Rattle.ext_available.specs.Offers.{AreOffers}

-- the path of a source's manifest in the depot
abbrev pub manifest_path : Transfer → List (List ℕ)
manifest_path transfer = transfer.source.path ++ codes "SHA256SUMS" ∷ []

-- what a text that was found tells of a transfer's source: its offers, or why there is no manifest
abbrev pub TellsOffers : Transfer → DepotText → Result (List Offer) OffersErr → Type 0
TellsOffers transfer found.Absent told = told ≡ Err (NotInDepot (manifest_path transfer))
TellsOffers transfer found.TooLong told = told ≡ Err TooLong
TellsOffers transfer (found.Whole bytes) told =
    ((sums : Entries) × (offers : List Offer) × IsManifest bytes sums × AreOffers sums transfer offers × (told ≡ Ok offers))
    ⊎ ((line : ℕ) × IsFirstFault bytes line × (told ≡ Err (BadManifest (manifest_path transfer) line)))

-- offers, and after them those that the rest tells, or why it tells none
abbrev pub offers_and : List (List Offer) → Result (List (List Offer)) OffersErr → Result (List (List Offer)) OffersErr
offers_and before (Ok rest) = Ok (before ++ rest)
offers_and before (Err e) = Err e

-- what the texts found for transfers tell, read one after another: the offers of each, or why the first of them that is no manifest
-- is none, and then no further text was read
abbrev pub OffersOf : List DepotText → List Transfer → Result (List (List Offer)) OffersErr → Type 0
OffersOf texts [] result = (texts ≡ []) × (result ≡ Ok [])
OffersOf [] (t ∷ ts) result = ⊥
OffersOf (text ∷ texts) (t ∷ ts) result =
    ((e : OffersErr) × TellsOffers t text (Err e) × (texts ≡ []) × (result ≡ Err e))
    ⊎ ((offers : List Offer) × (rest : Result (List (List Offer)) OffersErr) × TellsOffers t text (Ok offers) × OffersOf texts ts rest
    × (result ≡ offers_and (offers ∷ []) rest))

-- these texts were found at the manifests of the first of the transfers, where the depot tells its files
abbrev pub AreTextsIn : Option Files → List DepotText → List Transfer → Type 0
AreTextsIn files [] transfers = Unit {0}
AreTextsIn files (text ∷ texts) [] = ⊥
AreTextsIn files (text ∷ texts) (t ∷ ts) = IsTextIn files (manifest_path t) text × AreTextsIn files texts ts

-- texts were found that tell this
abbrev pub AreTold : Option Files → List Transfer → Result (List (List Offer)) OffersErr → Type 0
AreTold files transfers result = (texts : List DepotText) × AreTextsIn files texts transfers × OffersOf texts transfers result

-- a text was found that tells this of one transfer
abbrev pub IsTold : Option Files → Transfer → Result (List Offer) OffersErr → Type 0
IsTold files transfer told = (text : DepotText) × IsTextIn files (manifest_path transfer) text × TellsOffers transfer text told

-- an error is one that texts tell; memory may run out and the depot may fail at any time
abbrev pub IfTold : (OffersErr → Type 0) → OffersErr → Type 0
IfTold told OutOfMemory = Unit {0}
IfTold told Fault = Unit {0}
IfTold told (NotInDepot path) = told (NotInDepot path)
IfTold told TooLong = told TooLong
IfTold told (BadManifest path line) = told (BadManifest path line)

-- what an error of the depot is
abbrev pub of_depot_err : DepotErr → OffersErr
of_depot_err depot_errors.Fault = Fault
of_depot_err depot_errors.OutOfMemory = OutOfMemory

-- why there are no offers: a fault is told only where the depot had one
abbrev pub OffersCause : ℕ → ℕ → OffersErr → Type 0
OffersCause before after OutOfMemory = Unit {0}
OffersCause before after Fault = Rose before after
OffersCause before after (NotInDepot path) = Unit {0}
OffersCause before after TooLong = Unit {0}
OffersCause before after (BadManifest path line) = Unit {0}
