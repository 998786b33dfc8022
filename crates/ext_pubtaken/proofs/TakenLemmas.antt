-- What is published, as an import and an update read it.
use Rattle.std.proofs.Common.{◌≡◌, ◌≢◌, ℕ, ◌≤◌, true, false, List, [], ◌∷◌, ◌++◌, length, Option, Some, None, Result, refl, sym, ap, ◌∙◌, subst, inl, inr}
use Rattle.std.specs.Prelude.{nat_le}
use Rattle.std.specs.Option.{is_some}
use Rattle.std.proofs.lemmas.Bool.{cond-true, le-leb}
use Rattle.std.proofs.lemmas.Option.{none-some}
use Rattle.ext_attributes.specs.Attributes.{OfFile}
use Rattle.ext_text.specs.Name.{bytes_cmp}
use Rattle.ext_tree.specs.Tree.{Entries, lookup}
use Rattle.ext_tree.specs.TreeText.{IsTreeText}
use Rattle.ext_tree.specs.declared.entry.Entry.{Entry}
use Rattle.ext_tree.specs.declared.entry.Entry.TheVariants as entries
use Rattle.ext_tree.specs.declared.stamp.Stamp.{Stamp}
use Rattle.ext_tree.proofs.ForCallers.{tree_law, no_fault_in_text}
use Rattle.ext_depot.specs.Depot.{Files}
use Rattle.ext_depot.specs.DepotText.{text_of}
use Rattle.ext_depot.specs.declared.depot_text.DepotText.TheVariants.{TooLong, Whole}
use Rattle.ext_host.specs.DepotBodies.{in_depot}
use Rattle.ext_host.specs.Held.{HeldFile, IsStampOf}
use Rattle.ext_host.specs.Stamped.{stamps}
use Rattle.ext_host.specs.declared.body.Body.TheVariants.{Depot}
use Rattle.ext_host.proofs.ForCallers.{lookup_changed}
use Rattle.ext_sums.specs.Manifest.{IsManifest}
use Rattle.ext_sums.specs.Sums as listing
use Rattle.ext_sums.proofs.ForCallers.{no_fault_in_manifest, one_manifest}
use Rattle.ext_transfer.specs.declared.transfer.Transfer.{Transfer}
use Rattle.ext_available.specs.Reading.{TellsOffers}
use Rattle.ext_available.specs.Resource.{Has, listed_name}
use Rattle.ext_available.specs.declared.offer.Offer.{Offer}
use Rattle.ext_available.specs.declared.offers_err.OffersErr.{OffersErr}
use Rattle.ext_cmd.specs.Resource.{tree_path}
use Rattle.ext_intents.specs.Import.{TextWants, TreeWants}
use Rattle.ext_published.specs.Asked.{AskedOf, IsPublishAsk}
use Rattle.ext_published.specs.Names.{manifest_name, tree_text_name}
use Rattle.ext_published.specs.Payload.{listing_name}
use Rattle.ext_published.specs.Places.{published_manifest_path, published_resource_path, tree_text_path}
use Rattle.ext_published.specs.Published.{IsListedThere, IsPublished, published_text}
use Rattle.ext_published.specs.declared.payload.Payload.{Payload}
use Rattle.ext_published.specs.declared.payload.Payload.TheVariants.{Directory, File}
use Rattle.ext_published.proofs.ForCallers.{files_have_listed_stamps}
use Rattle.ext_publish.specs.Stops.{listed_digest}
use Rattle.ext_pubtaken.proofs.TextLemmas.{published_has_text}
use Rattle.ext_pubtaken.specs.Taken.{ImportTakes, ImportedFilesStand, IsTakenBy, OffersVersion, UpdateTakes, type_of_payload}

-- the tree text of a resource stands beside it
tree_path_is : (dir : List (List ℕ)) (name : List ℕ) → tree_path (dir ++ name ∷ []) ≡ dir ++ tree_text_name name ∷ []
tree_path_is [] name = refl
tree_path_is (n ∷ []) name = refl
tree_path_is (n ∷ m ∷ dir) name = ap (λ r. n ∷ r) (tree_path_is (m ∷ dir) name)

-- a short text is found whole
found_whole : (o : Option (List ℕ)) (bytes : List ℕ) → o ≡ Some bytes → length bytes ≤ 67108864 → text_of o ≡ Whole bytes
found_whole o bytes is short = ap text_of is ∙ cond-true (nat_le (length bytes) 67108864) (Whole bytes) TooLong (le-leb (length bytes) 67108864 short)

pub import_takes : ImportTakes
import_takes c asked from at tree bytes_of valid is gives published host path intent wants =
    text (subst (λ found. TextWants host (published_resource_path asked) path found intent)
    (wants.1 ∙ ap (λ p. text_of (c p)) (tree_path_is asked.folder asked.name) ∙ found_whole (c (tree_text_path asked)) (published_text tree) published.text published.size) wants.2)
  where
    printed : IsTreeText (published_text tree) (stamps tree)
    printed = record { tree = published_has_text from at tree valid is gives; text = refl }

    text : TextWants host (published_resource_path asked) path (Whole (published_text tree)) intent → TreeWants host (published_resource_path asked) path (stamps tree) intent
    text (inl read) = subst (λ es. TreeWants host (published_resource_path asked) path es intent) (tree_law (published_text tree) read.0 (stamps tree) read.1 printed) read.2
    text (inr faulty) = absurd (no_fault_in_text (published_text tree) (stamps tree) faulty.0 printed faulty.1)

-- a file in the depot by a tree
file_in_depot : (at : List (List ℕ)) (e : Option (Entry Stamp)) (path : List (List ℕ)) (attributes : OfFile) (held : HeldFile) → Rattle.std.specs.Option.option_map (in_depot at) e ≡ Some (entries.File attributes held)
    → (stamp : Stamp) × (e ≡ Some (entries.File attributes stamp)) × (held.stamp ≡ stamp) × (held.body ≡ Depot at)
file_in_depot at None path attributes held is = absurd (none-some (entries.File attributes held) is)
file_in_depot at (Some (entries.Dir m)) path attributes held is = absurd (cc is)
file_in_depot at (Some (entries.Opaque m)) path attributes held is = absurd (cc is)
file_in_depot at (Some (entries.File m stamp)) path attributes held is =
    let same_attributes : m ≡ attributes = cc in
    let made : record { stamp = stamp; body = Depot at } ≡ held = cc in
    (stamp, ap (λ (a : OfFile). Some (entries.File a stamp)) same_attributes, ap (λ (h : HeldFile). h.stamp) (sym made), ap (λ (h : HeldFile). h.body) (sym made))
file_in_depot at (Some (entries.Link owner target)) path attributes held is = absurd (cc is)
file_in_depot at (Some entries.Hide) path attributes held is = absurd (cc is)

pub imported_files_stand : ImportedFilesStand
imported_files_stand c asked tree bytes_of published stamped held file =
    let resource = published_resource_path asked in
    let one = file_in_depot (resource ++ file.path) (lookup (stamps tree) file.path) file.path file.attributes held (sym (lookup_changed (λ p e. in_depot (resource ++ p) e) file.path (stamps tree)) ∙ file.stands) in
    let there = files_have_listed_stamps c asked tree bytes_of published stamped file.path file.attributes one.0 one.1 in
    (resource ++ file.path, there.0, one.3, there.1, subst (IsStampOf there.0) (sym one.2) there.2)

-- the listing of what is published
listed_there : (c : Files) (asked : AskedOf) (payload : Payload) (bytes_of : HeldFile → List ℕ) → IsPublished c asked payload bytes_of → IsListedThere c asked (listing_name payload asked.name) (listed_digest payload bytes_of)
listed_there c asked (Directory tree) bytes_of published = published.listed
listed_there c asked (File held) bytes_of published = published.listed

listing_is : (payload : Payload) (name : List ℕ) → listed_name (type_of_payload payload) name ≡ listing_name payload name
listing_is (Directory tree) name = refl
listing_is (File held) name = refl

listing_is_name : (payload : Payload) (asked : AskedOf) → IsPublishAsk asked → Rattle.ext_text.specs.Name.IsName (listing_name payload asked.name)
listing_is_name (Directory tree) asked ask = ask.name.text
listing_is_name (File held) asked ask = ask.name.within

-- the source has the version by it
has_it : (c : Files) (asked : AskedOf) (payload : Payload) (bytes_of : HeldFile → List ℕ) (transfer : Transfer) (version : List ℕ) (sums : listing.Entries) → IsPublishAsk asked → (listed : IsListedThere c asked (listing_name payload asked.name) (listed_digest payload bytes_of))
    → IsTakenBy c asked payload bytes_of transfer version → IsManifest listed.text sums → Has sums transfer version asked.name (listed_digest payload bytes_of)
has_it c asked payload bytes_of transfer version sums ask listed taken manifest =
    let name_is : listed_name transfer.resources asked.name ≡ listing_name payload asked.name = ap (λ t. listed_name t asked.name) taken.type ∙ listing_is payload asked.name in
    let lists : listing.said sums (listing_name payload asked.name) ≡ Some (listed_digest payload bytes_of) = subst (λ s. listing.said s (listing_name payload asked.name) ≡ Some (listed_digest payload bytes_of)) (one_manifest listed.text listed.sums sums listed.reads manifest) listed.lists in
    record {
      candidate = record {
        listed = record {
          resource = ask.name.within;
          listed = subst Rattle.ext_text.specs.Name.IsName (sym name_is) (listing_is_name payload asked ask);
          digest_said = ap (listing.said sums) name_is ∙ lists;
        };
        read = taken.reads;
      };
      least = λ other digest candidate less. not_less (taken.alone listed.text sums listed.stands manifest other digest candidate) less;
    }
  where
    not_less : {other : List ℕ} → other ≡ asked.name → bytes_cmp other asked.name ≡ Rattle.std.specs.declared.cmp.Ordering.TheVariants.Less → ⊥
    not_less same less = Rattle.std.proofs.lemmas.Bool.false≢true (sym (ap Rattle.std.specs.Ordering.is_eq (ap (λ n. bytes_cmp n asked.name) (sym same) ∙ less)) ∙ Rattle.ext_text.proofs.ForCallers.tied_name asked.name asked.name refl)

pub update_takes : UpdateTakes
update_takes c asked payload bytes_of transfer version ask published taken told is =
    let listed = listed_there c asked payload bytes_of published in
    each listed told (subst (λ found. TellsOffers transfer found told)
    (is.1 ∙ ap (λ p. text_of (c (p ++ manifest_name ∷ []))) taken.source ∙ found_whole (c (published_manifest_path asked)) listed.text listed.stands listed.size) is.2)
  where
    each : (listed : IsListedThere c asked (listing_name payload asked.name) (listed_digest payload bytes_of)) (told : Result (List Offer) OffersErr) → TellsOffers transfer (Whole listed.text) told → OffersVersion version told
    each listed told (inl tells) =
        let has = has_it c asked payload bytes_of transfer version tells.0 ask listed taken tells.2 in
        let offer : Offer = record { version = version; name = asked.name; digest = record { 0 = listed_digest payload bytes_of } } in
        subst (OffersVersion version) (sym tells.4) (ap is_some ((tells.3.found offer).1 has))
    each listed told (inr tells) = absurd (no_fault_in_manifest listed.text listed.sums tells.0 listed.reads tells.1)
