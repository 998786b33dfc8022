-- The resource of an offer, and what it is whatever the depot tells.
use Rattle.std.proofs.Common.{◌≡◌, inl, inr, ℕ, true, false, cond, List, Option, Some, None, Ok, Err, refl, sym, ap, subst, ◌∙◌}
use Rattle.std.specs.Prelude.{nat_le}
use Rattle.std.proofs.lemmas.Bool.{leb-true}
use Rattle.sha2.specs.Sha256.{sha256}
use Rattle.ext_text.specs.Digest.{IsDigest}
use Rattle.ext_text.specs.declared.digest.Digest.{Digest}
use Rattle.ext_depot.specs.Depot.{Files}
use Rattle.ext_depot.specs.declared.depot_text.DepotText.{DepotText}
use Rattle.ext_depot.specs.declared.depot_text.DepotText.TheVariants as found
use Rattle.ext_transfer.specs.declared.transfer.ResourceType.{ResourceType}
use Rattle.ext_transfer.specs.declared.transfer.ResourceType.TheVariants as types
use Rattle.ext_transfer.specs.declared.transfer.Transfer.{Transfer}
use Rattle.ext_available.specs.declared.offer.Offer.{Offer}
use Rattle.ext_resources.specs.declared.resource.Content.{Content}
use Rattle.ext_resources.specs.declared.resource.Content.TheVariants.{File, Directory}
use Rattle.ext_resources.specs.declared.resource.Resource.{Resource}
use Rattle.ext_resources.specs.declared.resource_err.ResourceErr.{ResourceErr}
use Rattle.ext_resources.specs.declared.resource_err.ResourceErr.TheVariants.{FileTooLarge}
use Rattle.ext_resources.specs.Resources.{HasDigest, IsResource}
use Rattle.ext_resources.specs.Told.{IsContentTold, IsOfferTold, TellsResource, TellsDirectory, file_content, most_file}
use Rattle.ext_resources.specs.Wanted.{IsOffer, first_filled, listed_path, resource_path}

-- a resource of these parts
abbrev pub of_parts : ℕ → List ℕ → List (List ℕ) → Content → Resource
of_parts place name source content = record { transfer = place; name = name; source = source; content = content }

-- the content of what is listed makes the resource of the offer
pub offer_told : (files : Option Files) (place : ℕ) (t : Transfer) (o : Offer) (version name : List ℕ) (source listed : List (List ℕ)) (content : Content)
    → name ≡ first_filled t.target.patterns version o.digest.0 → source ≡ resource_path t o → listed ≡ listed_path t o
    → IsContentTold t.resources files listed o.digest (Ok content) → IsOfferTold files place t o version (Ok (of_parts place name source content))
offer_told files place t o version name source listed content named stands at told =
    let P : List (List ℕ) → Type 0 = λ path. IsContentTold t.resources files path o.digest (Ok content) in (
      Ok content,
      subst P at told,
      ap (λ (n : List ℕ). Ok (of_parts place n source content)) named
          ∙ ap (λ (path : List (List ℕ)). Ok (of_parts place (first_filled t.target.patterns version o.digest.0) path content)) stands,
    )

-- and its error is that of the offer
pub offer_refused : (files : Option Files) (place : ℕ) (t : Transfer) (o : Offer) (version : List ℕ) (listed : List (List ℕ)) (e : ResourceErr)
    → listed ≡ listed_path t o → IsContentTold t.resources files listed o.digest (Err e) → IsOfferTold files place t o version (Err e)
offer_refused files place t o version listed e at told =
    let P : List (List ℕ) → Type 0 = λ path. IsContentTold t.resources files path o.digest (Err e) in (Err e, subst P at told, refl)

file_digest : (path : List (List ℕ)) (digest : Digest) (size : Option ℕ) (content : Content) → IsDigest digest.0 → Ok content ≡ file_content path digest size
    → HasDigest types.File digest.0 content
file_digest path digest None content is told = absurd (cc told)
file_digest path digest (Some size) content is told =
    elim (nat_le size most_file) as (λ b. nat_le size most_file ≡ b → Ok content ≡ cond b (Ok (File (record { size = size; digest = digest }))) (Err (FileTooLarge path)) → HasDigest types.File digest.0 content) [
      | true ↦ λ low same.
          let is_file : content ≡ File (record { size = size; digest = digest }) = cc same in
          subst (HasDigest types.File digest.0) (sym is_file) (record { size = leb-true size most_file low; digest = is }, refl)
      | false ↦ λ _ other. absurd (cc other)
    ] refl told

directory_digest : (path : List (List ℕ)) (digest : Digest) (text : DepotText) (content : Content) → TellsDirectory path digest text (Ok content)
    → HasDigest types.Directory digest.0 content
directory_digest path digest found.Absent content told = absurd (cc told)
directory_digest path digest found.TooLong content told = absurd (cc told)
directory_digest path digest (found.Whole bytes) content (inl (same, inl (tree, is, told))) =
    let is_tree : content ≡ Directory tree = cc told in
    subst (HasDigest types.Directory digest.0) (sym is_tree) (is.tree, ap sha256 (sym is.text) ∙ same)
directory_digest path digest (found.Whole bytes) content (inl (same, inr (line, at, told))) = absurd (cc told)
directory_digest path digest (found.Whole bytes) content (inr (other, told)) = absurd (cc told)

-- what is told of what is listed with a digest has it
content_digest : (resources : ResourceType) (files : Option Files) (path : List (List ℕ)) (digest : Digest) (content : Content) → IsDigest digest.0
    → IsContentTold resources files path digest (Ok content) → HasDigest resources digest.0 content
content_digest types.File files path digest content is (size, there, told) = file_digest path digest size content is told
content_digest types.Directory files path digest content is (text, there, told) = directory_digest path digest text content told

-- what is told of an offer is a resource of the version
pub offer_resource : (files : Option Files) (ts : List Transfer) (ss : List (List Offer)) (version : List ℕ) (place : ℕ) (t : Transfer) (o : Offer) (r : Resource)
    → IsOffer ts ss version place t o → IsDigest o.digest.0 → IsOfferTold files place t o version (Ok r) → IsResource ts ss version r
offer_resource files ts ss version place t o r offer digest (Ok content, told, same) =
    let made = of_parts place (first_filled t.target.patterns version o.digest.0) (resource_path t o) content in
    let is : r ≡ made = cc same in
    let made_resource : IsResource ts ss version made = record {
      transfer = t;
      offer = o;
      offered = offer;
      name = refl;
      source = refl;
      content = content_digest t.resources files (listed_path t o) o.digest content digest told;
    } in
    subst (IsResource ts ss version) (sym is) made_resource
offer_resource files ts ss version place t o r offer digest (Err e, told, same) = absurd (cc same)

-- it is one for the transfer at the place
pub told_transfer : (files : Option Files) (ts : List Transfer) (ss : List (List Offer)) (version : List ℕ) (place : ℕ) (r : Resource)
    → TellsResource files ts ss version place (Ok r) → r.transfer ≡ place
told_transfer files ts ss version place r (t, o, offer, (Ok content, told, same)) =
    let made = of_parts place (first_filled t.target.patterns version o.digest.0) (resource_path t o) content in
    ap (λ (x : Resource). x.transfer) (let is : r ≡ made = cc same in is)
told_transfer files ts ss version place r (t, o, offer, (Err e, told, same)) = absurd (cc same)
