-- What an update writes, by its resources and by what goes and stays.
use Rattle.std.proofs.Common.{◌≡◌, ◌≢◌, ℕ, true, false, cond, ◌==◌, List, [], ◌∷◌, ◌++◌, map, length, Option, Some, None, Err, refl, sym, ap, ◌∙◌, subst}
use Rattle.std.specs.Prelude.{Contains, IfOk, IfSome, slice_get}
use mathlib.Core.Logic.{inr}
use Rattle.std.specs.List.{AllByRecursion, flat_map, range_with_len}
use Rattle.std.specs.Option.{option_map, option_or}
use Rattle.std.proofs.lemmas.Bool.{eqb-true, false≢true}
use Rattle.std.proofs.lemmas.List.{map-append}
use Rattle.std.proofs.lemmas.Option.{get_or_from_slice_get, none-some, same_Some, slice_get_within}
use Rattle.ext_text.proofs.ForCallers.{all_append}
use Rattle.ext_depot.specs.Depot.{Files}
use Rattle.ext_tree.specs.Tree.{Entries}
use Rattle.ext_host.specs.Held.{HeldFile}
use Rattle.ext_host.specs.declared.host.Host.{Host}
use Rattle.ext_transfer.specs.Bounds.{KeepsBounds}
use Rattle.ext_transfer.specs.declared.transfer.ResourceType.{ResourceType}
use Rattle.ext_transfer.specs.declared.transfer.ResourceType.TheVariants as types
use Rattle.ext_transfer.specs.declared.transfer.Transfer.{Transfer}
use Rattle.ext_available.specs.declared.offer.Offer.{Offer}
use Rattle.ext_installed.specs.Installed.{AreInstalled}
use Rattle.ext_installed.specs.declared.instance.Instance.{Instance}
use Rattle.ext_available.specs.Available.{IsOffered}
use Rattle.ext_choice.specs.Choice.{Chooses}
use Rattle.ext_choice.specs.declared.choosing.Choice.TheVariants.{Install}
use Rattle.ext_choice.specs.declared.division.Division.{Division}
use Rattle.ext_choice.proofs.ForCallers.{got_among}
use Rattle.ext_resources.specs.Resources.{AreResources, HasDigest, IsResource}
use Rattle.ext_resources.specs.Told.{TellsResources, IfToldReason}
use Rattle.ext_resources.specs.Wanted.{is_instance}
use Rattle.ext_resources.specs.declared.resource.Content.{Content}
use Rattle.ext_resources.specs.declared.resource.Content.TheVariants.{File, Directory}
use Rattle.ext_resources.specs.declared.resource.Resource.{Resource}
use Rattle.ext_resources.specs.declared.resource_err.ResourceErr.{ResourceErr}
use Rattle.ext_resources.specs.declared.resource_err.ResourceErr.TheVariants as untaken
use Rattle.ext_updated.specs.declared.items.Items.{Items}
use Rattle.ext_updated.specs.declared.piece.Piece.{Piece}
use Rattle.ext_update.specs.Drafts.{AreItems, HasContent, IsContent, IsOfTransfer, IsSet, arrival_of, arrival_piece, current_at, current_path, current_piece, first_name, set_link_at, link_with, links_of, target_of, writes_with}
use Rattle.ext_update.specs.Given.{AreUpdatesFor}
use Rattle.ext_update.specs.Stages.{WritesWant, items_of}
use Rattle.ext_update.specs.Steps.{IsDraftOf, IsSoundDraft, draft_writes}
use Rattle.ext_update.specs.Untaken.{not_taken}
use Rattle.ext_update.specs.Update.{VersionWants, writes_of}
use Rattle.ext_update.specs.Writing.{current_of, first_instance, first_resource, in_target, link_if, link_pieces, resource_piece, set_link}
use Rattle.ext_update.specs.declared.draft.Current.{Current}
use Rattle.ext_update.specs.declared.draft.Current.TheVariants.{Had, Written}
use Rattle.ext_update.specs.declared.draft.CurrentLink.{CurrentLink}
use Rattle.ext_update.specs.declared.draft.Draft.{Draft}
use Rattle.ext_update.specs.Vacuum.{GoneWants, no_writes, vacuum_of}
use Rattle.ext_update.specs.declared.planned.Planned.{Planned}
use Rattle.ext_update.specs.declared.planned.Vacuum.{Vacuum}
use Rattle.ext_update.specs.declared.updates.Updates.{Updates}
use Rattle.ext_update.proofs.FindLemmas.{all_contained}
use Rattle.ext_update.proofs.NextLemmas.{each_contained}

target_path : (o : Option Transfer) (name : List ℕ) → target_of o ++ name ∷ [] ≡ in_target o name
target_path None name = refl
target_path (Some transfer) name = refl

resource_pieces : (transfers : List Transfer) (resources : List Resource) → map arrival_piece (map (arrival_of transfers) resources) ≡ map (resource_piece transfers) resources
resource_pieces transfers [] = refl
resource_pieces transfers (r ∷ rs) =
    let one : arrival_piece (arrival_of transfers r) ≡ resource_piece transfers r = λ i. record {
      path = target_path (slice_get transfers r.transfer) r.name i;
      top = (resource_piece transfers r).top;
      part = (resource_piece transfers r).part;
    } in
    λ i. one i ∷ resource_pieces transfers rs i

-- what a link names
named_with : (target : List (List ℕ)) (had : Option (List (List ℕ))) (name : Option (List ℕ))
    → option_map (current_path target) (option_or (option_map Had had) (option_map Written name)) ≡ option_or had (option_map (λ n. target ++ n ∷ []) name)
named_with target None None = refl
named_with target None (Some n) = refl
named_with target (Some p) name = refl

names_are : (transfers : List Transfer) (transfer : Transfer) (place : ℕ) (resources : List Resource) → slice_get transfers place ≡ Some transfer
    → option_map (λ n. transfer.target.path ++ n ∷ []) (first_name resources place) ≡ first_resource transfers resources place
names_are transfers transfer place [] there = refl
names_are transfers transfer place (r ∷ rs) there =
    elim (r.transfer == place) as (λ b. (r.transfer == place) ≡ b → option_map (λ n. transfer.target.path ++ n ∷ []) (cond b (Some r.name) (first_name rs place))
    ≡ cond b (Some (in_target (slice_get transfers r.transfer) r.name)) (first_resource transfers rs place)) [
      | true ↦ λ same. ap (λ (o : Option Transfer). Some (in_target o r.name)) (sym (ap (slice_get transfers) (eqb-true r.transfer place same) ∙ there))
      | false ↦ λ _. names_are transfers transfer place rs there
    ] refl

current_same : (transfers : List Transfer) (items : List Instance) (resources : List Resource) (version : List ℕ) (place : ℕ) (transfer : Transfer) → slice_get transfers place ≡ Some transfer
    → option_map (current_path transfer.target.path) (current_at items resources version place) ≡ current_of transfers items resources version place
current_same transfers items resources version place transfer there =
    named_with transfer.target.path (first_instance items version place) (first_name resources place)
    ∙ ap (option_or (first_instance items version place)) (names_are transfers transfer place resources there)

link_same : (target : List (List ℕ)) (link : Option (List (List ℕ))) (current : Option Current)
    → map current_piece (link_with target link current) ≡ link_if target (option_map (current_path target) current) link
link_same target None None = refl
link_same target None (Some c) = refl
link_same target (Some p) None = refl
link_same target (Some p) (Some c) = refl

link_at_same : (transfers : List Transfer) (items : List Instance) (resources : List Resource) (version : List ℕ) (place : ℕ) (o : Option Transfer) → slice_get transfers place ≡ o
    → map current_piece (set_link_at o (current_at items resources version place)) ≡ set_link o (current_of transfers items resources version place)
link_at_same transfers items resources version place None there = refl
link_at_same transfers items resources version place (Some transfer) there =
    link_same transfer.target.path transfer.link (current_at items resources version place)
    ∙ ap (λ (o : Option (List (List ℕ))). link_if transfer.target.path o transfer.link) (current_same transfers items resources version place transfer there)

map_flat : (f : ℕ → List CurrentLink) (g : ℕ → List (Piece HeldFile)) (ks : List ℕ) → ((k : ℕ) → map current_piece (f k) ≡ g k)
    → map current_piece (flat_map f ks) ≡ flat_map g ks
map_flat f g [] same = refl
map_flat f g (k ∷ ks) same = map-append current_piece (f k) (flat_map f ks) ∙ (λ i. same k i ++ map_flat f g ks same i)

links_same : (transfers : List Transfer) (items : List Instance) (resources : List Resource) (version : List ℕ)
    → map current_piece (links_of transfers items resources version) ≡ link_pieces transfers items resources version
links_same transfers items resources version =
    map_flat (λ place. set_link_at (slice_get transfers place) (current_at items resources version place))
    (λ place. set_link (slice_get transfers place) (current_of transfers items resources version place)) (range_with_len 0 (length transfers))
    (λ place. link_at_same transfers items resources version place (slice_get transfers place) refl)

-- what the draft of an update writes
pub writes_are : (updates : Updates) (version : List ℕ) (resources : List Resource) (division : Division) (draft : Draft) (items : Items) → IsDraftOf updates version resources draft
    → AreItems draft division items → draft_writes draft items ≡ writes_of updates version resources division
writes_are updates version resources division draft items is are =
    let pieces = ap (map arrival_piece) is.arrivals ∙ resource_pieces updates.transfers resources in
    let links = ap (map current_piece) is.links ∙ links_same updates.transfers updates.installed.items resources version in
    λ i. record { resources = pieces i; links = links i; removed = are.removed i; staying = are.staying i }

-- the items are those of the draft
pub draft_items : (draft : Draft) (division : Division) (items : Items) → AreItems draft division items → items ≡ items_of (draft_writes draft items)
draft_items draft division items are =
    are.same ∙ (λ i. items_of (writes_with draft (sym are.removed i) (sym are.staying i)))

-- contents are in the ranges of trees
has_content : (type : ResourceType) (digest : List ℕ) (content : Content) → HasDigest type digest content → IsContent content
has_content types.File digest (File stamp) has = has.0
has_content types.File digest (Directory tree) has = absurd has
has_content types.Directory digest (File stamp) has = absurd has
has_content types.Directory digest (Directory tree) has = has.0.each

contents_sound : (transfers : List Transfer) (sources : List (List Offer)) (version : List ℕ) (resources : List Resource) → AllByRecursion (IsResource transfers sources version) resources
    → AllByRecursion HasContent (map (arrival_of transfers) resources)
contents_sound transfers sources version [] all = tt
contents_sound transfers sources version (r ∷ rs) all =
    (has_content all.0.transfer.resources all.0.offer.digest.0 r.content all.0.content, contents_sound transfers sources version rs all.1)

pub of_transfers : (transfers : List Transfer) (sources : List (List Offer)) (version : List ℕ) (resources : List Resource) → AllByRecursion (IsResource transfers sources version) resources
    → AllByRecursion (IsOfTransfer transfers) resources
of_transfers transfers sources version [] all = tt
of_transfers transfers sources version (r ∷ rs) all =
    (slice_get_within transfers r.transfer all.0.transfer all.0.offered.transfer_there, of_transfers transfers sources version rs all.1)

-- links are set below the root, and name something below it
child_below : (target : List (List ℕ)) (name : List ℕ) → target ++ name ∷ [] ≢ []
child_below [] name = λ is. cc is
child_below (n ∷ target) name = λ is. cc is

current_below : (target : List (List ℕ)) (had : Option (List (List ℕ))) (name : Option (List ℕ)) → ((p : List (List ℕ)) → had ≡ Some p → p ≢ [])
    → (c : Current) → option_or (option_map Had had) (option_map Written name) ≡ Some c → current_path target c ≢ []
current_below target (Some p) name below c is = subst (λ (x : Current). current_path target x ≢ []) (same_Some (Had p) c is) (below p refl)
current_below target None (Some n) below c is = subst (λ (x : Current). current_path target x ≢ []) (same_Some (Written n) c is) (child_below target n)
current_below target None None below c is = absurd (none-some c is)

first_below : (items : List Instance) (version : List ℕ) (place : ℕ) (path : List (List ℕ)) → AllByRecursion (λ (i : Instance). i.path ≢ []) items
    → first_instance items version place ≡ Some path → path ≢ []
first_below [] version place path all is = absurd (none-some path is)
first_below (item ∷ items) version place path all is =
    elim (is_instance version place item) as (λ b. cond b (Some item.path) (first_instance items version place) ≡ Some path → path ≢ []) [
      | true ↦ λ got. subst (λ p. p ≢ []) (same_Some item.path path got) all.0
      | false ↦ λ got. first_below items version place path all.1 got
    ] is

set_with : (target : List (List ℕ)) (link : Option (List (List ℕ))) (current : Option Current) → IfSome link (λ p. p ≢ []) → ((c : Current) → current ≡ Some c → current_path target c ≢ [])
    → AllByRecursion IsSet (link_with target link current)
set_with target None current path names = tt
set_with target (Some p) None path names = tt
set_with target (Some p) (Some c) path names = (record { path = path; current = names c refl }, tt)

all_flat : (P : CurrentLink → Type 0) (f : ℕ → List CurrentLink) (ks : List ℕ) → ((k : ℕ) → AllByRecursion P (f k)) → AllByRecursion P (flat_map f ks)
all_flat P f [] holds = tt
all_flat P f (k ∷ ks) holds = all_append P (f k) (flat_map f ks) (holds k) (all_flat P f ks holds)

got_contained : {X : Type 0} (xs : List X) (k : ℕ) (x : X) → slice_get xs k ≡ Some x → Contains xs x
got_contained xs k x got = (k, slice_get_within xs k x got, get_or_from_slice_get xs k x x got)

links_set : (transfers : List Transfer) (items : List Instance) (resources : List Resource) (version : List ℕ) → AllByRecursion KeepsBounds transfers
    → AllByRecursion (λ (i : Instance). i.path ≢ []) items → AllByRecursion IsSet (links_of transfers items resources version)
links_set transfers items resources version bounds below =
    all_flat IsSet (λ place. set_link_at (slice_get transfers place) (current_at items resources version place)) (range_with_len 0 (length transfers))
    (λ place. set_at place (slice_get transfers place) refl)
  where
    set_at : (place : ℕ) (o : Option Transfer) → slice_get transfers place ≡ o → AllByRecursion IsSet (set_link_at o (current_at items resources version place))
    set_at place None there = tt
    set_at place (Some transfer) there =
        set_with transfer.target.path transfer.link (current_at items resources version place)
        (all_contained KeepsBounds transfers transfer bounds (got_contained transfers place transfer there)).link
        (current_below transfer.target.path (first_instance items version place) (first_name resources place) (λ p is. first_below items version place p below is))

-- instances stand below the root
instances_below : (base : Entries HeldFile) (updates : Updates) → AreInstalled base updates.transfers updates.installed → AllByRecursion (λ (i : Instance). i.path ≢ []) updates.installed.items
instances_below base updates installed =
    each_contained (λ (i : Instance). i.path ≢ []) updates.installed.items (λ item at.
    let is = (installed.each item at).2.resource in
    subst (λ p. p ≢ []) (sym is.below) (child_below (installed.each item at).0.target.path is.name))

-- the draft of an update is sound
pub draft_sound : (host : Host) (updates : Updates) (version : List ℕ) (resources : List Resource) (draft : Draft) → AreUpdatesFor host updates
    → AreResources updates.transfers updates.offers updates.installed.items version resources → IsDraftOf updates version resources draft → IsSoundDraft draft
draft_sound host updates version resources draft given are is = record {
  contents = subst (AllByRecursion HasContent) (sym is.arrivals) (contents_sound updates.transfers updates.offers version resources are.each);
  set = subst (AllByRecursion IsSet) (sym is.links) (links_set updates.transfers updates.installed.items resources version given.bounds (instances_below given.base updates given.installed));
}

-- what is wanted where a resource can't be taken
pub not_taken_wants : (files : Option Files) (host : Host) (updates : Updates) (version : List ℕ) (failed : ResourceErr)
    → IfToldReason (λ e. TellsResources files updates.transfers updates.offers updates.installed.items version (Err e)) failed
    → IfOk (not_taken failed) (VersionWants files host updates version)
not_taken_wants files host updates version untaken.OutOfMemory told = tt
not_taken_wants files host updates version untaken.Fault told = tt
not_taken_wants files host updates version (untaken.NotInDepot path) told = inr (untaken.NotInDepot path, told, refl)
not_taken_wants files host updates version (untaken.FileTooLarge path) told = inr (untaken.FileTooLarge path, told, refl)
not_taken_wants files host updates version (untaken.TextTooLong path) told = inr (untaken.TextTooLong path, told, refl)
not_taken_wants files host updates version (untaken.Mismatch path listed found) told = inr (untaken.Mismatch path listed found, told, refl)
not_taken_wants files host updates version (untaken.BadTree path line) told = inr (untaken.BadTree path line, told, refl)

-- nothing is written where room is made
pub vacuum_writes : (draft : Draft) (division : Division) (items : Items) → draft.arrivals.items ≡ [] → draft.links.items ≡ [] → AreItems draft division items
    → draft_writes draft items ≡ no_writes division
vacuum_writes draft division items arrivals links are =
    λ i. record { resources = map arrival_piece (arrivals i); links = map current_piece (links i); removed = are.removed i; staying = are.staying i }

pub gone_wants : (host : Host) (division : Division) (removed : List (List (List ℕ))) (vacuum : Vacuum) (planned : Planned) → (length removed == 0) ≡ false
    → WritesWant host (no_writes division) planned → vacuum ≡ vacuum_of removed planned → GoneWants host division removed vacuum
gone_wants host division [] vacuum planned some wants is = absurd (false≢true (sym some))
gone_wants host division (p ∷ ps) vacuum planned some wants is = (planned, wants, is)

-- a version is installed that is available
pub installs : (available installed : List (List ℕ)) (wanted : Option (List ℕ)) (place : ℕ) → Chooses available installed wanted (Install place)
    → (v : List ℕ) × (slice_get available place ≡ Some v)
installs available installed None place (v, there, newest) = (v, there)
installs available installed (Some v) place (free, there) = (v, there)

pub is_offered : (host : Host) (updates : Updates) (place : ℕ) (version : List ℕ) → AreUpdatesFor host updates → slice_get updates.available place ≡ Some version
    → AllByRecursion (IsOffered version) updates.offers
is_offered host updates place version given there = ((given.available.each version).0 (got_among updates.available place version there)).offered
