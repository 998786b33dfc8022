-- What the depot tells of resources is one thing; what manifests tell is listed; and what resources are for their transfers.
use Rattle.std.proofs.Common.{◌≡◌, inl, inr, ℕ, true, false, arith, List, [], ◌∷◌, length, map, Some, Result, Ok, Err, refl, sym, ap, subst, ◌∙◌}
use Rattle.std.specs.Prelude.{◌==◌, MatchBool, slice_get}
use Rattle.std.specs.List.{AllZip, Contains}
use Rattle.std.specs.List.Sorted.{IsStrictlyIncreasing}
use Rattle.std.specs.Str.{bytes_eq}
use Rattle.std.proofs.lemmas.Bool.{and_from, and_parts, eq-eqb, eqb-true}
use Rattle.std.proofs.lemmas.List.Elements.{Contains-append_right}
use Rattle.std.proofs.lemmas.List.Folds.{Any-from_list_any, list_any-from_Any}
use Rattle.std.proofs.lemmas.Option.{same_Some}
use Rattle.ext_text.specs.declared.digest.Digest.{Digest}
use Rattle.ext_depot.specs.Depot.{Files}
use Rattle.ext_depot.specs.declared.depot_text.DepotText.{DepotText}
use Rattle.ext_depot.specs.declared.depot_text.DepotText.TheVariants as found
use Rattle.ext_tree.specs.FirstFault.{IsOne}
use Rattle.ext_tree.specs.Laws.{NoFaultInText, OneFirstFault, OneTreeOfText}
use Rattle.ext_tree.specs.Tree.{Entries}
use Rattle.ext_tree.specs.declared.stamp.Stamp.{Stamp}
use Rattle.ext_pattern.specs.First.{IsFirstMatch}
use Rattle.ext_transfer.specs.declared.transfer.ResourceType.{ResourceType}
use Rattle.ext_transfer.specs.declared.transfer.ResourceType.TheVariants as types
use Rattle.ext_transfer.specs.declared.transfer.Transfer.{Transfer}
use Rattle.ext_available.specs.declared.offer.Offer.{Offer}
use Rattle.ext_available.specs.Offers.{AreOffers, find_offer}
use Rattle.ext_available.specs.Reading as manifests
use Rattle.ext_installed.specs.Installed.{AreInstalled}
use Rattle.ext_installed.specs.Instance.{HasInstance, IsInstance}
use Rattle.ext_installed.specs.declared.instance.Instance.{Instance}
use Rattle.ext_installed.specs.declared.instance.Instances.{Instances}
use Rattle.ext_installed.proofs.ForCallers.{contains_cases, none_contained}
use Rattle.ext_resources.specs.declared.resource.Content.{Content}
use Rattle.ext_resources.specs.declared.resource.Content.TheVariants.{Directory}
use Rattle.ext_resources.specs.declared.resource.Resource.{Resource}
use Rattle.ext_resources.specs.declared.resource_err.ResourceErr.{ResourceErr}
use Rattle.ext_resources.specs.declared.resource_err.ResourceErr.TheVariants.{BadTree}
use Rattle.ext_resources.specs.Laws.{HasWhatTheTreeHas, InstanceOrResource, IsTakenFor, NameIsReadBack, OneTaken, PlacesAscend, ToldAreListed}
use Rattle.ext_resources.specs.Told.{AreToldAt, IsContentTold, IsFirstUntaken, TellsResource, TellsDirectory, TellsTree, file_content, resource_with}
use Rattle.ext_resources.specs.Wanted.{AreListed, IsOffer, has_instance, is_instance, lacking_places, listed_path}
use Rattle.ext_resources.proofs.LackingLemmas.{lacking_ascends, lacks, lacks_not}
use Rattle.ext_resources.proofs.OfferLemmas.{equal_bytes, listed_there, read_back, same_bytes}

module _ (one_tree : OneTreeOfText) (no_fault : NoFaultInText) (one_fault : OneFirstFault IsOne) where
  -- a text of the listed digest tells one thing
  tree_once : (path : List (List ℕ)) (bytes : List ℕ) (a b : Result Content ResourceErr) → TellsTree path bytes a → TellsTree path bytes b → a ≡ b
  tree_once path bytes a b (inl (tree, is, told)) (inl (other, also, too)) =
      told ∙ ap (λ (es : Entries Stamp). Ok (Directory es)) (one_tree bytes tree other is also) ∙ sym too
  tree_once path bytes a b (inl (tree, is, told)) (inr (line, at, too)) = absurd (no_fault bytes tree line is at)
  tree_once path bytes a b (inr (line, at, told)) (inl (tree, is, too)) = absurd (no_fault bytes tree line is at)
  tree_once path bytes a b (inr (line, at, told)) (inr (number, also, too)) =
      told ∙ ap (λ n. Err (BadTree path n)) (one_fault bytes line number at also) ∙ sym too

  -- and so does what was found of a directory
  directory_once : (path : List (List ℕ)) (digest : Digest) (text : DepotText) (a b : Result Content ResourceErr)
      → TellsDirectory path digest text a → TellsDirectory path digest text b → a ≡ b
  directory_once path digest found.Absent a b told too = told ∙ sym too
  directory_once path digest found.TooLong a b told too = told ∙ sym too
  directory_once path digest (found.Whole bytes) a b (inl (same, told)) (inl (also, too)) = tree_once path bytes a b told too
  directory_once path digest (found.Whole bytes) a b (inl (same, told)) (inr (other, too)) = absurd (other same)
  directory_once path digest (found.Whole bytes) a b (inr (other, told)) (inl (same, too)) = absurd (other same)
  directory_once path digest (found.Whole bytes) a b (inr (other, told)) (inr (also, too)) = told ∙ sym too

  module _ (files : Files) where
    content_once : (resources : ResourceType) (path : List (List ℕ)) (digest : Digest) (a b : Result Content ResourceErr)
        → IsContentTold resources (Some files) path digest a → IsContentTold resources (Some files) path digest b → a ≡ b
    content_once types.File path digest a b (size, is, told) (other, also, too) =
        told ∙ ap (file_content path digest) (is ∙ sym also) ∙ sym too
    content_once types.Directory path digest a b (text, is, told) (other, also, too) =
        let P : DepotText → Type 0 = λ x. TellsDirectory path digest x b in
        directory_once path digest text a b told (subst P (also ∙ sym is) too)

    module _ (ts : List Transfer) (ss : List (List Offer)) (version : List ℕ) where
      same_transfer : (place : ℕ) (t u : Transfer) (o p : Offer) → IsOffer ts ss version place t o → IsOffer ts ss version place u p → t ≡ u
      same_transfer place t u o p first second = same_Some t u (sym first.transfer_there ∙ second.transfer_there)

      same_offer : (place : ℕ) (t u : Transfer) (o p : Offer) → IsOffer ts ss version place t o → IsOffer ts ss version place u p → o ≡ p
      same_offer place t u o p first second =
          let lists : first.offers ≡ second.offers = same_Some first.offers second.offers (sym first.offers_there ∙ second.offers_there) in
          same_Some o p (sym first.found ∙ ap (λ (os : List Offer). find_offer os version) lists ∙ second.found)

      -- of the resource for the transfer at a place one thing is told
      place_once : (place : ℕ) (a b : Result Resource ResourceErr) → TellsResource (Some files) ts ss version place a → TellsResource (Some files) ts ss version place b → a ≡ b
      place_once place a b (t, o, first, (content, told, is)) (u, p, second, (other, too, also)) =
          is ∙ ap (resource_with place t o version) same
          ∙ ap (λ (x : Transfer). resource_with place x o version other) transfers ∙ ap (λ (x : Offer). resource_with place u x version other) offers
          ∙ sym also
        where
          transfers : t ≡ u
          transfers = same_transfer place t u o p first second

          offers : o ≡ p
          offers = same_offer place t u o p first second

          there : IsContentTold t.resources (Some files) (listed_path t o) o.digest other
          there =
              let P : Transfer → Type 0 = λ x. IsContentTold x.resources (Some files) (listed_path x p) p.digest other in
              let Q : Offer → Type 0 = λ x. IsContentTold t.resources (Some files) (listed_path t x) x.digest other in
              subst Q (sym offers) (subst P (sym transfers) too)

          same : content ≡ other
          same = content_once t.resources (listed_path t o) o.digest content other told there

module _ (Told : ℕ → Result Resource ResourceErr → Type 0) (once : (place : ℕ) (a b : Result Resource ResourceErr) → Told place a → Told place b → a ≡ b) where
  not_both : (place : ℕ) (r : Resource) (e : ResourceErr) → Told place (Ok r) → Told place (Err e) → ⊥
  not_both place r e told refused = cc (once place (Ok r) (Err e) told refused)

  same_resource : (place : ℕ) (r s : Resource) → Told place (Ok r) → Told place (Ok s) → r ≡ s
  same_resource place r s told too =
      let both : ◌≡◌ {A = Result Resource ResourceErr} (Ok r) (Ok s) = once place (Ok r) (Ok s) told too in
      cc both

  same_error : (place : ℕ) (e f : ResourceErr) → Told place (Err e) → Told place (Err f) → e ≡ f
  same_error place e f told too =
      let both : ◌≡◌ {A = Result Resource ResourceErr} (Err e) (Err f) = once place (Err e) (Err f) told too in
      cc both

  lists_once : (places : List ℕ) (rs qs : List Resource) → AreToldAt Told places (Ok rs) → AreToldAt Told places (Ok qs) → rs ≡ qs
  lists_once [] [] [] told too = refl
  lists_once [] [] (q ∷ qs) told too = absurd too
  lists_once [] (r ∷ rs) qs told too = absurd told
  lists_once (place ∷ places) [] qs told too = absurd told
  lists_once (place ∷ places) (r ∷ rs) [] told too = absurd too
  lists_once (place ∷ places) (r ∷ rs) (q ∷ qs) told too =
      ap (λ (x : Resource). x ∷ rs) (same_resource place r q told.0 too.0) ∙ ap (λ (xs : List Resource). q ∷ xs) (lists_once places rs qs told.1 too.1)

  errors_once : (places : List ℕ) (e f : ResourceErr) → IsFirstUntaken Told places e → IsFirstUntaken Told places f → e ≡ f
  errors_once [] e f told too = absurd told
  errors_once (place ∷ places) e f (inl here) (inl also) = same_error place e f here also
  errors_once (place ∷ places) e f (inl here) (inr (r, told, later)) = absurd (not_both place r e told here)
  errors_once (place ∷ places) e f (inr (r, told, later)) (inl here) = absurd (not_both place r f told here)
  errors_once (place ∷ places) e f (inr (r, told, later)) (inr (q, too, last)) = errors_once places e f later last

  never_both : (places : List ℕ) (rs : List Resource) (e : ResourceErr) → AreToldAt Told places (Ok rs) → IsFirstUntaken Told places e → ⊥
  never_both [] rs e told refused = refused
  never_both (place ∷ places) [] e told refused = told
  never_both (place ∷ places) (r ∷ rs) e told (inl here) = not_both place r e told.0 here
  never_both (place ∷ places) (r ∷ rs) e told (inr (q, passed, later)) = never_both places rs e told.1 later

  -- of places one after another one thing is told
  places_once : (places : List ℕ) (a b : Result (List Resource) ResourceErr) → AreToldAt Told places a → AreToldAt Told places b → a ≡ b
  places_once places (Ok rs) (Ok qs) told too = ap (λ (xs : List Resource). Ok xs) (lists_once places rs qs told too)
  places_once places (Ok rs) (Err e) told too = absurd (never_both places rs e told too)
  places_once places (Err e) (Ok rs) told too = absurd (never_both places rs e too told)
  places_once places (Err e) (Err f) told too = ap (λ (x : ResourceErr). Err x) (errors_once places e f told too)

-- where the depot tells its files, it tells one thing of the resources
pub one_told : OneTreeOfText → NoFaultInText → OneFirstFault IsOne → OneTaken
one_told tree no_fault fault files ts ss items version a b told too =
    places_once (TellsResource (Some files) ts ss version) (place_once tree no_fault fault files ts ss version) (lacking_places items version (length ts)) a b told too

tells_listed : (t : Transfer) (text : DepotText) (offers : List Offer) → manifests.TellsOffers t text (Ok offers) → AreListed t offers
tells_listed t found.Absent offers told = absurd (cc told)
tells_listed t found.TooLong offers told = absurd (cc told)
tells_listed t (found.Whole bytes) offers (inl (entries, those, is, are, told)) =
    let same : offers ≡ those = cc told in (entries, subst (AreOffers entries t) (sym same) are)
tells_listed t (found.Whole bytes) offers (inr (line, at, told)) = absurd (cc told)

texts_listed : (texts : List DepotText) (ts : List Transfer) (ss : List (List Offer)) → manifests.OffersOf texts ts (Ok ss) → AllZip AreListed ts ss
texts_listed texts [] ss told = subst (AllZip AreListed []) (sym (let none : ss ≡ [] = cc told.1 in none)) tt
texts_listed [] (t ∷ ts) ss told = absurd told
texts_listed (text ∷ texts) (t ∷ ts) ss (inl (e, tells, none, is)) = absurd (cc is)
texts_listed (text ∷ texts) (t ∷ ts) ss (inr (offers, Ok rest, tells, told, is)) =
    let same : ss ≡ offers ∷ rest = cc is in
    subst (AllZip AreListed (t ∷ ts)) (sym same) (tells_listed t text offers tells, texts_listed texts ts rest told)
texts_listed (text ∷ texts) (t ∷ ts) ss (inr (offers, Err e, tells, told, is)) = absurd (cc is)

-- offers that manifests tell are listed
pub told_listed : ToldAreListed
told_listed files ts ss (texts, there, told) = texts_listed texts ts ss told

transfer_taken : (rs : List Resource) (place : ℕ) → Contains (map (λ (r : Resource). r.transfer) rs) place → IsTakenFor place rs
transfer_taken [] place at = absurd (none_contained place at)
transfer_taken (r ∷ rs) place at = elim (contains_cases r.transfer place (map (λ (x : Resource). x.transfer) rs) at) [
  | inl same ↦ (r, (0, omega arith, refl), same)
  | inr later ↦ let rest = transfer_taken rs place later in (rest.0, Contains-append_right (r ∷ []) rs rest.0 rest.1, rest.2)
]

taken_transfer : (rs : List Resource) (r : Resource) → Contains rs r → Contains (map (λ (x : Resource). x.transfer) rs) r.transfer
taken_transfer [] r at = absurd (none_contained r at)
taken_transfer (x ∷ rs) r at = elim (contains_cases x r rs at) [
  | inl same ↦
      let P : Resource → Type 0 = λ y. Contains (x.transfer ∷ map (λ (z : Resource). z.transfer) rs) y.transfer in
      subst P same (0, omega arith, refl)
  | inr later ↦ Contains-append_right (x.transfer ∷ []) (map (λ (y : Resource). y.transfer) rs) r.transfer (taken_transfer rs r later)
]

module _ {C : Type 0} where
  -- an instance that is found is one of the tree
  tree_has : (es : Entries C) (ts : List Transfer) (found : Instances) (version : List ℕ) (place : ℕ) (t : Transfer) → AreInstalled es ts found
      → slice_get ts place ≡ Some t → has_instance found.items version place ≡ true → HasInstance es version t
  tree_has es ts found version place t are there has =
      let any = Any-from_list_any (is_instance version place) found.items has in
      let item = any.1 in
      let tests = and_parts (item.transfer == place) (bytes_eq item.version version) any.4 in
      let is = are.each item (any.0, any.2, any.3) in
      let at : item.transfer ≡ place = eqb-true item.transfer place tests.0 in
      let same : is.0 ≡ t = same_Some is.0 t (sym is.1 ∙ ap (slice_get ts) at ∙ there) in
      let P : Transfer → Type 0 = λ x. IsInstance es x item.version item.path in
      let Q : List ℕ → Type 0 = λ v. IsInstance es t v item.path in
      (item.path, subst Q (equal_bytes item.version version tests.1) (subst P same is.2))

  -- and one of the tree is found
  has_it : (es : Entries C) (ts : List Transfer) (found : Instances) (version : List ℕ) (place : ℕ) (t : Transfer) → AreInstalled es ts found
      → slice_get ts place ≡ Some t → HasInstance es version t → has_instance found.items version place ≡ true
  has_it es ts found version place t are there (path, is) =
      let item : Instance = record { transfer = place; version = version; path = path } in
      let at = are.whole item (t, there, is) in
      let passes = and_from (place == place) (bytes_eq version version) (eq-eqb place place refl) (same_bytes version) in
      list_any-from_Any (is_instance version place) found.items (at.0, item, at.1, at.2, passes)

-- what is found has what the tree has
pub has_what_the_tree_has : {C : Type 0} → HasWhatTheTreeHas C
has_what_the_tree_has es ts found version place t are there = (tree_has es ts found version place t are there, has_it es ts found version place t are there)

-- a transfer has an instance of the version, or a resource is taken for it
pub instance_or_resource : InstanceOrResource
instance_or_resource ts ss items version rs place are low =
    elim (has_instance items version place) as (λ b. has_instance items version place ≡ b → MatchBool b (¬ IsTakenFor place rs) (IsTakenFor place rs)) [
      | true ↦ λ has (r, at, same).
          let P : List ℕ → Type 0 = λ ns. Contains ns place in
          let there = subst (Contains (map (λ (x : Resource). x.transfer) rs)) same (taken_transfer rs r at) in
          lacks_not items version (length ts) place has (subst P are.places there)
      | false ↦ λ none.
          let P : List ℕ → Type 0 = λ ns. Contains ns place in
          transfer_taken rs place (subst P (sym are.places) (lacks items version (length ts) place low none))
    ] refl

-- resources stand in the order of their transfers
pub places_ascend : PlacesAscend
places_ascend ts ss items version rs are = subst IsStrictlyIncreasing (sym are.places) (lacking_ascends items version (length ts))

-- the name of a resource is read as its version
pub name_read_back : NameIsReadBack
name_read_back ts ss version r t listed is there =
    let same : is.transfer ≡ t = same_Some is.transfer t (sym is.offered.transfer_there ∙ there) in
    let at = listed_there ts ss r.transfer is.transfer is.offered.offers listed is.offered.transfer_there is.offered.offers_there in
    let read = read_back is.transfer is.offered.offers version is.offer at is.offered.found in
    let P : List ℕ → Type 0 = λ name. IsFirstMatch is.transfer.target.patterns name version read.0 in
    let Q : Transfer → Type 0 = λ x. IsFirstMatch x.target.patterns r.name version read.0 in
    (read.0, subst Q same (subst P (sym is.name) read.1))
