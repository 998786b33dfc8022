-- What sources offer is one.
use Rattle.std.proofs.Common.{◌≡◌, ◌⊎◌, inl, inr, ℕ, Bool, true, false, cond, List, [], ◌∷◌, Option, Some, None, Result, Ok, Err, refl, sym, ap, subst, ◌∙◌}
use Rattle.std.specs.Cmp.{both_ways}
use Rattle.std.specs.List.{AllByRecursion}
use Rattle.std.specs.List.Sorted.{IsStrictlySortedBy}
use Rattle.std.specs.Ordering.{ordering_reverse}
use Rattle.std.specs.declared.cmp.Ordering.TheVariants.{Less, Equal, Greater}
use Rattle.std.specs.Str.{bytes_eq}
use Rattle.std.proofs.lemmas.Option.{none-some}
use Rattle.ext_depot.specs.Depot.{Files}
use Rattle.ext_depot.specs.declared.depot_text.DepotText.{DepotText}
use Rattle.ext_depot.specs.declared.depot_text.DepotText.TheVariants as found
use Rattle.ext_sums.specs.Laws.{NoFaultInManifest, OneFault, OneManifest}
use Rattle.ext_sums.specs.Sums.{Entries}
use Rattle.ext_transfer.specs.declared.transfer.Transfer.{Transfer}
use Rattle.ext_vers.specs.Order.{orders_exact, orders_total}
use Rattle.ext_vers.specs.Version.{order_of}
use Rattle.ext_versions.specs.Laws.{OneList}
use Rattle.ext_versions.specs.Versions.{has_version}
use Rattle.ext_available.specs.declared.offer.Offer.{Offer}
use Rattle.ext_available.specs.declared.offers_err.OffersErr.{OffersErr}
use Rattle.ext_available.specs.declared.offers_err.OffersErr.TheVariants.{BadManifest}
use Rattle.ext_available.specs.Available.{AreAvailable}
use Rattle.ext_available.specs.Laws.{HasOne, OfferIsVersion, OneAvailable, OneOffers, OneTold}
use Rattle.ext_available.specs.Offers.{AreAscending, AreOffers, find_offer, offered_versions}
use Rattle.ext_available.specs.Reading.{AreTextsIn, OffersOf, TellsOffers, manifest_path, offers_and}
use Rattle.ext_available.proofs.CandidateLemmas.{found_version, has_one}
use Rattle.ext_available.proofs.OfferLemmas.{unfound}
use Rattle.ext_available.proofs.VersionLemmas.{equal_bytes, equal_versions, other_version, same_bytes}

-- the version of the first offer is found there
found_here : (o : Offer) (os : List Offer) → find_offer (o ∷ os) o.version ≡ Some o
found_here o os = ap (λ b. cond b (Some o) (find_offer os o.version)) (same_bytes o.version)

-- and nowhere after it
not_later : (v : List ℕ) (os : List Offer) → AllByRecursion (λ w. order_of v w ≡ Less) (offered_versions os) → find_offer os v ≡ None
not_later v [] above = refl
not_later v (o ∷ os) above = ap (λ b. cond b (Some o) (find_offer os v)) (other_version o.version v above.0) ∙ not_later v os above.1

-- a version below that of the first offer is not found
not_before : (v : List ℕ) (o : Offer) (os : List Offer) → order_of v o.version ≡ Less → AreAscending (o ∷ os) → find_offer (o ∷ os) v ≡ None
unfolding IsStrictlySortedBy
not_before v o os less sorted = ap (λ b. cond b (Some o) (find_offer os v)) (other_version o.version v less) ∙ unfound v o.version os less sorted.0

-- a list whose first offer is found in another one does not begin below that
no_less : (x y : Offer) (xs ys : List Offer) → AreAscending (y ∷ ys) → ((v : List ℕ) → find_offer (x ∷ xs) v ≡ find_offer (y ∷ ys) v) → ¬ (order_of x.version y.version ≡ Less)
no_less x y xs ys sorted same less = none-some x (sym (not_before x.version y ys less sorted) ∙ sym (same x.version) ∙ found_here x xs)

same_rest : (x : Offer) (xs ys : List Offer) → AreAscending (x ∷ xs) → AreAscending (x ∷ ys) → ((v : List ℕ) → find_offer (x ∷ xs) v ≡ find_offer (x ∷ ys) v) → (v : List ℕ) → find_offer xs v ≡ find_offer ys v
unfolding IsStrictlySortedBy
same_rest x xs ys first second same v =
    elim (bytes_eq x.version v) as (λ b. bytes_eq x.version v ≡ b → cond b (Some x) (find_offer xs v) ≡ cond b (Some x) (find_offer ys v) → find_offer xs v ≡ find_offer ys v) [
      | true ↦ λ equal _.
          let is : x.version ≡ v = equal_bytes x.version v equal in
          ap (find_offer xs) (sym is) ∙ not_later x.version xs first.0 ∙ sym (ap (find_offer ys) (sym is) ∙ not_later x.version ys second.0)
      | false ↦ λ _ rest. rest
    ] refl (same v)

-- ascending offers among which the same is found are the same
same_offers : (a b : List Offer) → AreAscending a → AreAscending b → ((v : List ℕ) → find_offer a v ≡ find_offer b v) → a ≡ b
unfolding IsStrictlySortedBy
same_offers [] [] first second same = refl
same_offers [] (y ∷ ys) first second same = absurd (none-some y (same y.version ∙ found_here y ys))
same_offers (x ∷ xs) [] first second same = absurd (none-some x (sym (same x.version) ∙ found_here x xs))
same_offers (x ∷ xs) (y ∷ ys) first second same =
    elim (order_of x.version y.version) as (λ r. order_of x.version y.version ≡ r → x ∷ xs ≡ y ∷ ys) [
      | Less ↦ λ less. absurd (no_less x y xs ys second same less)
      | Equal ↦ λ tie.
          let found_in_both : Some x ≡ Some y = sym (found_here x xs) ∙ same x.version ∙ ap (λ b. cond b (Some y) (find_offer ys x.version)) (ap (λ (v : List ℕ). bytes_eq v x.version) (sym (orders_exact x.version y.version tie)) ∙ same_bytes x.version) in
          let is : x ≡ y = cc found_in_both in
          let P : Offer → Type 0 = λ o. AreAscending (o ∷ ys) in
          let Q : Offer → Type 0 = λ o. (v : List ℕ) → find_offer (x ∷ xs) v ≡ find_offer (o ∷ ys) v in
          ap (λ os. x ∷ os) (same_offers xs ys first.1 second.1 (same_rest x xs ys first (subst P (sym is) second) (subst Q (sym is) same))) ∙ ap (λ (o : Offer). o ∷ ys) is
      | Greater ↦ λ above. absurd (no_less y x ys xs first (λ v. sym (same v)) (orders_total.antisymm y.version x.version ∙ ap ordering_reverse above))
    ] refl

one_way : (sums : Entries) (t : Transfer) (a b : List Offer) (v : List ℕ) → AreOffers sums t a → AreOffers sums t b → (o : Offer) → find_offer a v ≡ Some o → find_offer b v ≡ Some o
one_way sums t a b v first second o is =
    let version : o.version ≡ v = found_version a v o is in
    ap (find_offer b) (sym version) ∙ (second.found o).1 ((first.found o).0 (ap (find_offer a) version ∙ is))

both_same : (p q : Option Offer) → ((o : Offer) → p ≡ Some o → q ≡ Some o) → ((o : Offer) → q ≡ Some o → p ≡ Some o) → p ≡ q
both_same None None there back = refl
both_same None (Some o) there back = back o refl
both_same (Some o) q there back = sym (there o refl)

-- a source offers one list by a manifest
pub one_offers : OneOffers
one_offers sums t a b first second =
    same_offers a b first.ascending second.ascending (λ v. both_same (find_offer a v) (find_offer b v) (one_way sums t a b v first second) (one_way sums t b a v second first))

-- and has a version by one name and one digest
pub has_one_name : HasOne
has_one_name = has_one

-- what is offered is a version, by a name
pub offer_is_version : OfferIsVersion
offer_is_version sums t os v o are found =
    let version : o.version ≡ v = found_version os v o found in
    let has = (are.found o).0 (ap (find_offer os) version ∙ found) in
    (version, has.candidate.read.source.version_is, has.candidate.listed.resource)

-- there is one list of the versions that are available
pub one_available : OneList → OneAvailable
one_available one ts os a b first second =
    one a b first.order second.order (λ v. both_ways (has_version a v) (has_version b v) (λ is. (second.each v).1 ((first.each v).0 is)) (λ is. (first.each v).1 ((second.each v).0 is)))

-- a text tells one thing of a source
tells_one : OneManifest → NoFaultInManifest → OneFault → (t : Transfer) (text : DepotText) (a b : Result (List Offer) OffersErr) → TellsOffers t text a → TellsOffers t text b → a ≡ b
tells_one manifest no_fault fault t found.Absent a b first second = first ∙ sym second
tells_one manifest no_fault fault t found.TooLong a b first second = first ∙ sym second
tells_one manifest no_fault fault t (found.Whole bytes) a b (inl (sums, os, is, are, told)) (inl (others, ps, also, too, other)) =
    let same : sums ≡ others = manifest bytes sums others is also in
    let P : Entries → Type 0 = λ s. AreOffers s t os in
    told ∙ ap Ok (one_offers others t os ps (subst P same are) too) ∙ sym other
tells_one manifest no_fault fault t (found.Whole bytes) a b (inl (sums, os, is, are, told)) (inr (line, at, other)) = absurd (no_fault bytes sums line is at)
tells_one manifest no_fault fault t (found.Whole bytes) a b (inr (line, at, told)) (inl (sums, os, is, are, other)) = absurd (no_fault bytes sums line is at)
tells_one manifest no_fault fault t (found.Whole bytes) a b (inr (line, at, told)) (inr (number, also, other)) =
    told ∙ ap (λ n. Err (BadManifest (manifest_path t) n)) (fault bytes line number at also) ∙ sym other

-- an error, of what is told of several sources
abbrev as_error : Result (List Offer) OffersErr → Result (List (List Offer)) OffersErr
as_error (Ok os) = Ok []
as_error (Err e) = Err e

module _ (manifest : OneManifest) (no_fault : NoFaultInManifest) (fault : OneFault) (files : Files) where
  told_once : (ts : List Transfer) (texts others : List DepotText) (a b : Result (List (List Offer)) OffersErr) → AreTextsIn (Some files) texts ts → AreTextsIn (Some files) others ts → OffersOf texts ts a → OffersOf others ts b → a ≡ b
  told_once [] texts others a b in_files also first second = first.1 ∙ sym second.1
  told_once (t ∷ ts) [] others a b in_files also first second = absurd first
  told_once (t ∷ ts) (text ∷ texts) [] a b in_files also first second = absurd second
  told_once (t ∷ ts) (text ∷ texts) (other ∷ others) a b in_files also first second =
      by_first (λ rest more of_rest of_more. told_once ts texts others rest more in_files.1 also.1 of_rest of_more) first second
    where
      same : other ≡ text
      same = also.0 ∙ sym in_files.0

      tells : (r : Result (List Offer) OffersErr) → TellsOffers t other r → TellsOffers t text r
      tells r is = let P : DepotText → Type 0 = λ x. TellsOffers t x r in subst P same is

      one : (p q : Result (List Offer) OffersErr) → TellsOffers t text p → TellsOffers t other q → p ≡ q
      one p q told too = tells_one manifest no_fault fault t text p q told (tells q too)

      by_first : ((rest more : Result (List (List Offer)) OffersErr) → OffersOf texts ts rest → OffersOf others ts more → rest ≡ more) → OffersOf (text ∷ texts) (t ∷ ts) a → OffersOf (other ∷ others) (t ∷ ts) b → a ≡ b
      by_first once (inl (e, told, none, is)) (inl (f, too, none2, at)) = is ∙ ap as_error (one (Err e) (Err f) told too) ∙ sym at
      by_first once (inl (e, told, none, is)) (inr (os, rest, too, of_rest, at)) = absurd (cc (one (Err e) (Ok os) told too))
      by_first once (inr (os, rest, told, of_rest, is)) (inl (f, too, none, at)) = absurd (cc (one (Ok os) (Err f) told too))
      by_first once (inr (os, rest, told, of_rest, is)) (inr (ps, more, too, of_more, at)) =
          let both : ◌≡◌ {A = Result (List Offer) OffersErr} (Ok os) (Ok ps) = one (Ok os) (Ok ps) told too in
          let first_same : os ≡ ps = cc both in
          is ∙ ap (λ (x : List Offer). offers_and (x ∷ []) rest) first_same ∙ ap (offers_and (ps ∷ [])) (once rest more of_rest of_more) ∙ sym at

-- where the depot tells its files, the manifests of transfers tell one thing
pub one_told : OneManifest → NoFaultInManifest → OneFault → OneTold
one_told manifest no_fault fault files ts a b (texts, in_files, first) (others, also, second) =
    told_once manifest no_fault fault files ts texts others a b in_files also first second
