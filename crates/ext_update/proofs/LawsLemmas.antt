-- What follows of what is wanted.
use Rattle.std.proofs.Common.{◌≡◌, ℕ, Bool, true, false, cond, not, List, [], ◌∷◌, ◌++◌, map, length, Option, Some, None, Ok, refl, sym, ap, ◌∙◌, subst}
use Rattle.std.specs.Prelude.{Contains, slice_get}
use mathlib.Core.Logic.{inl, inr}
use Rattle.std.specs.List.{AllByRecursion, filter, flat_map, range_with_len}
use Rattle.std.proofs.lemmas.Bool.{false≢true}
use Rattle.std.proofs.lemmas.List.{map-append}
use Rattle.std.proofs.lemmas.List.Elements.{Contains-append_left}
use Rattle.ext_text.specs.SortedPaths.{meets}
use Rattle.ext_text.specs.declared.which.Which.{Which}
use Rattle.ext_text.proofs.ForCallers.{all_append}
use Rattle.ext_depot.specs.Depot.{Files}
use Rattle.ext_tree.specs.Tree.{Entries}
use Rattle.ext_host.specs.Held.{HeldFile}
use Rattle.ext_host.specs.Limits.{passed_limit}
use Rattle.ext_host.specs.declared.host.Host.{Host}
use Rattle.ext_host.specs.declared.manifest.Manifest.{Manifest}
use Rattle.ext_transfer.specs.declared.transfer.Transfer.{Transfer}
use Rattle.ext_installed.specs.declared.instance.Instance.{Instance}
use Rattle.ext_installed.proofs.ForCallers.{contains_cases, none_contained}
use Rattle.ext_choice.specs.Vacuum.{IsDivision}
use Rattle.ext_choice.specs.declared.choosing.Choice.{Choice}
use Rattle.ext_choice.specs.declared.choosing.Choice.TheVariants.{Install, Present, NoneNewer, NoSuch}
use Rattle.ext_choice.specs.declared.division.Division.{Division}
use Rattle.ext_choice.proofs.ForCallers.{protected_instance_stays}
use Rattle.ext_resources.specs.Told.{TellsResources}
use Rattle.ext_resources.specs.declared.resource.Content.{Content}
use Rattle.ext_resources.specs.declared.resource.Content.TheVariants.{File, Directory}
use Rattle.ext_resources.specs.declared.resource.Resource.{Resource}
use Rattle.ext_resources.specs.declared.resource_err.ResourceErr.{ResourceErr}
use Rattle.ext_resources.specs.declared.resource_err.ResourceErr.TheVariants as untaken
use Rattle.ext_updated.specs.Clash.{NoClash}
use Rattle.ext_updated.specs.Items.{written}
use Rattle.ext_updated.specs.Pieces.{IsPiece, paths_of}
use Rattle.ext_updated.specs.Updated.{IsUpdated}
use Rattle.ext_updated.specs.declared.piece.Piece.{Piece}
use Rattle.ext_updated.proofs.ForCallers.{pieces_stand, staying_stays}
use Rattle.ext_update.specs.Laws.{IsProtected, ManifestsAreKept, ResourcesStand, StandsAsBefore, UpdatesKeepProtected, UpdatesWrite, VacuumsKeepProtected, VacuumsRemove}
use Rattle.ext_update.specs.Stages.{AllFit, AreKept, ResourceFits, SizedWants, Writes, WritesWant, is_within_limits, items_of, written_pieces, touched_by}
use Rattle.ext_update.specs.Untaken.{not_taken}
use Rattle.ext_update.specs.Update.{ChoiceWants, TakenWants, VersionWants, update_of, writes_of}
use Rattle.ext_update.specs.Vacuum.{GoneWants, no_writes, vacuum_of}
use Rattle.ext_update.specs.Writing.{current_of, link_if, link_pieces, resource_piece, set_link}
use Rattle.ext_update.specs.declared.planned.Planned.{Planned}
use Rattle.ext_update.specs.declared.planned.Planned.TheVariants as plans
use Rattle.ext_update.specs.declared.planned.Update.TheVariants as updated
use Rattle.ext_update.specs.declared.planned.Vacuum.TheVariants as vacuumed
use Rattle.ext_update.specs.declared.refusal.UpdateRefusal.{UpdateRefusal}
use Rattle.ext_update.specs.declared.updates.Updates.{Updates}
use Rattle.ext_update.proofs.FindLemmas.{all_contained, contained_among, here, later}

-- a coming host is none of the refusals, and no other one
next_same : (a b : Host) → plans.Next a ≡ plans.Next b → a ≡ b
next_same a b same = cc

no_refusal : (a : Host) (refusal : UpdateRefusal) → plans.Next a ≡ plans.Refused refusal → ⊥
no_refusal a refusal same = cc

-- what a coming host is
pub record IsWanted (host : Host) (writes : Writes) (next : Host) : Type 0 where
  pub apart : NoClash host.root (items_of writes)
  pub fits : AllFit writes
  pub updated : IsUpdated host.root writes.removed (written_pieces writes) next.root
  pub kept : AreKept host writes next.root next.kept
  pub rest : next ≡ record host { root = next.root; kept = next.kept }

wanted_sized : (host : Host) (writes : Writes) (next : Host) (root : Entries HeldFile) (limit : Option Which) → NoClash host.root (items_of writes) → AllFit writes
    → IsUpdated host.root writes.removed (written_pieces writes) root → SizedWants host writes root limit (plans.Next next) → IsWanted host writes next
wanted_sized host writes next root None apart fits updated (kept, are, is) =
    let same = next_same next (record host { root = root; kept = kept }) is in
    record {
      apart = apart;
      fits = fits;
      updated = subst (λ (h : Host). IsUpdated host.root writes.removed (written_pieces writes) h.root) (sym same) updated;
      kept = subst (λ (h : Host). AreKept host writes h.root h.kept) (sym same) are;
      rest = subst (λ (h : Host). h ≡ record host { root = h.root; kept = h.kept }) (sym same) refl;
    }
wanted_sized host writes next root (Some which) apart fits updated is = absurd (no_refusal next _ is)

pub is_wanted : (host : Host) (writes : Writes) (next : Host) → WritesWant host writes (plans.Next next) → IsWanted host writes next
is_wanted host writes next (inr (path, least, is)) = absurd (no_refusal next _ is)
is_wanted host writes next (inl (unlocked, inr (path, least, is))) = absurd (no_refusal next _ is)
is_wanted host writes next (inl (unlocked, inl (apart, inr (path, least, is)))) = absurd (no_refusal next _ is)
is_wanted host writes next (inl (unlocked, inl (apart, inl (opens, inr (unfit, is))))) = absurd (no_refusal next _ is)
is_wanted host writes next (inl (unlocked, inl (apart, inl (opens, inl (fits, (root, updated, wants)))))) =
    wanted_sized host writes next root (passed_limit root host.lower) apart fits updated wants

path_at : (ps : List (Piece HeldFile)) (piece : Piece HeldFile) → Contains ps piece → Contains (paths_of ps) piece.path
path_at [] piece at = absurd (none_contained piece at)
path_at (p ∷ ps) piece at = elim (contains_cases p piece ps at) [
  | inl same ↦ subst (λ (q : Piece HeldFile). Contains (paths_of (p ∷ ps)) q.path) same (here p.path (paths_of ps))
  | inr more ↦ later p.path piece.path (paths_of ps) (path_at ps piece more)
]

filter_has : {X : Type 0} (test : X → Bool) (xs : List X) (x : X) → Contains xs x → test x ≡ true → Contains (filter test xs) x
filter_has test [] x at is = absurd (none_contained x at)
filter_has {X} test (y ∷ ys) x at is = elim (contains_cases y x ys at) [
  | inl same ↦ subst (λ b. Contains (cond b (y ∷ filter test ys) (filter test ys)) x) (sym (ap test same ∙ is)) (subst (Contains (y ∷ filter test ys)) same (here y (filter test ys)))
  | inr more ↦ elim (test y) as (λ b. Contains (cond b (y ∷ filter test ys) (filter test ys)) x) [
    | true ↦ later y x (filter test ys) (filter_has test ys x more is)
    | false ↦ filter_has test ys x more is
  ]
]

-- all resources are items, where all fit
filter_fits : (pieces : List (Piece HeldFile)) → AllByRecursion ResourceFits pieces → filter is_within_limits (paths_of pieces) ≡ paths_of pieces
filter_fits [] fits = refl
filter_fits (p ∷ ps) fits =
    ap (λ b. cond b (p.path ∷ filter is_within_limits (paths_of ps)) (filter is_within_limits (paths_of ps))) fits.0.path
    ∙ ap (λ (qs : List (List (List ℕ))). p.path ∷ qs) (filter_fits ps fits.1)

pub pieces_written : (writes : Writes) → AllFit writes → paths_of (written_pieces writes) ≡ written (items_of writes)
pieces_written writes fits =
    map-append (λ (piece : Piece HeldFile). piece.path) writes.resources writes.links
    ∙ ap (λ (ps : List (List (List ℕ))). ps ++ paths_of writes.links) (sym (filter_fits writes.resources fits.resources))

-- each resource stands, and has its manifest
pub resources_stand : ResourcesStand
resources_stand host next writes piece wants at =
    let is = is_wanted host writes next wants in
    let among = Contains-append_left writes.resources writes.links piece at in
    let manifest = is.kept.each piece.path (contained_among (paths_of writes.resources) piece.path (path_at writes.resources piece at)) in (
      (pieces_stand host.root writes.removed (written_pieces writes) next.root piece is.updated among).0,
      (manifest.0, manifest.1, manifest.2.path_is, manifest.2.items),
    )

-- manifests are kept
pub manifests_are_kept : ManifestsAreKept
manifests_are_kept host next writes added wants valid all =
    let is = is_wanted host writes next wants in
    record {
      valid = valid;
      kept = λ m at out. (is.kept.same m).1 (inl (filter_has (λ (n : Manifest). not (meets (touched_by (items_of writes)) n.path)) host.kept m at (ap not out)));
      adds = λ m at. (is.kept.same m).1 (inr (all_contained _ added m all at));
    }

-- what stays stands as before
stays_stands : (host next : Host) (writes : Writes) (path : List (List ℕ)) → WritesWant host writes (plans.Next next) → AllByRecursion IsPiece (written_pieces writes)
    → Contains writes.staying path → StandsAsBefore host.root next.root path
stays_stands host next writes path wants each at rest =
    let is = is_wanted host writes next wants in
    staying_stays host.root (items_of writes) (written_pieces writes) next.root path rest (record { paths = pieces_written writes is.fits; each = each }) is.apart is.updated
    (contained_among writes.staying path at)

protected_stays_at : (transfers : List Transfer) (items : List Instance) (coming : Option (List ℕ)) (division : Division) (item : Instance) → IsDivision transfers coming items division
    → IsProtected transfers items item → Contains division.staying item.path
protected_stays_at transfers items coming division item divides is =
    (divides.others item.path).1 (record {
      item = item;
      among = is.among;
      at = refl;
      stays = protected_instance_stays transfers coming items item is.transfer is.there is.protected;
    })

-- what is written are pieces
content_piece : (transfers : List Transfer) (r : Resource) (content : Content) → r.content ≡ content → IsPiece (resource_piece transfers r)
content_piece transfers r content is = subst (λ (c : Content). IsPiece (resource_piece transfers (record r { content = c }))) (sym is) (by content)
  where
    by : (c : Content) → IsPiece (resource_piece transfers (record r { content = c }))
    by (File stamp) = λ top. refl
    by (Directory tree) = λ top. absurd (false≢true (sym top))

resource_pieces : (transfers : List Transfer) (resources : List Resource) → AllByRecursion IsPiece (map (resource_piece transfers) resources)
resource_pieces transfers [] = tt
resource_pieces transfers (r ∷ rs) = (content_piece transfers r r.content refl, resource_pieces transfers rs)

links_flat : (f : ℕ → List (Piece HeldFile)) (ks : List ℕ) → ((k : ℕ) → AllByRecursion IsPiece (f k)) → AllByRecursion IsPiece (flat_map f ks)
links_flat f [] holds = tt
links_flat f (k ∷ ks) holds = all_append IsPiece (f k) (flat_map f ks) (holds k) (links_flat f ks holds)

link_piece_if : (target : List (List ℕ)) (at link : Option (List (List ℕ))) → AllByRecursion IsPiece (link_if target at link)
link_piece_if target None link = tt
link_piece_if target (Some p) None = tt
link_piece_if target (Some p) (Some l) = ((λ top. refl), tt)

link_piece_set : (o : Option Transfer) (at : Option (List (List ℕ))) → AllByRecursion IsPiece (set_link o at)
link_piece_set None at = tt
link_piece_set (Some t) at = link_piece_if t.target.path at t.link

writes_pieces : (updates : Updates) (version : List ℕ) (resources : List Resource) (division : Division) → AllByRecursion IsPiece (written_pieces (writes_of updates version resources division))
writes_pieces updates version resources division =
    all_append IsPiece (map (resource_piece updates.transfers) resources) (link_pieces updates.transfers updates.installed.items resources version)
    (resource_pieces updates.transfers resources)
    (links_flat (λ place. set_link (slice_get updates.transfers place) (current_of updates.transfers updates.installed.items resources version place)) (range_with_len 0 (length updates.transfers))
    (λ place. link_piece_set (slice_get updates.transfers place) (current_of updates.transfers updates.installed.items resources version place)))

change_same : (v w : List ℕ) (a b : Host) → updated.Changes v a ≡ updated.Changes w b → (v ≡ w) × (a ≡ b)
change_same v w a b same = (cc, cc)

-- a change is that of a host that is planned
planned_is : (version coming : List ℕ) (next : Host) (planned : Planned) → updated.Changes version next ≡ update_of coming planned
    → (version ≡ coming) × (planned ≡ plans.Next next)
planned_is version coming next (plans.Next n) same =
    let both = change_same version coming next n same in
    (both.0, ap (λ (h : Host). plans.Next h) (sym both.1))
planned_is version coming next (plans.Refused refusal) same = cc same

not_refused : (version : List ℕ) (next : Host) (refusal : UpdateRefusal) → updated.Changes version next ≡ updated.Refused refusal → ⊥
not_refused version next refusal same = cc same

not_unchanged : (version : List ℕ) (next : Host) → updated.Changes version next ≡ updated.Unchanged → ⊥
not_unchanged version next same = cc same

module _ (files : Option Files) (host next : Host) (updates : Updates) (version : List ℕ) where
  -- what an update writes that changes the host
  abbrev WritesNext : Type 0
  WritesNext =
      (resources : List Resource) × (division : Division) × TellsResources files updates.transfers updates.offers updates.installed.items version (Ok resources)
      × IsDivision updates.transfers (Some version) updates.installed.items division × WritesWant host (writes_of updates version resources division) (plans.Next next)

  divided_writes : (resources : List Resource) (division : Division) (planned : Planned) → TellsResources files updates.transfers updates.offers updates.installed.items version (Ok resources)
      → IsDivision updates.transfers (Some version) updates.installed.items division → WritesWant host (writes_of updates version resources division) planned
      → updated.Changes version next ≡ update_of version planned → WritesNext
  divided_writes resources division planned told divides wants same =
      (resources, division, told, divides, subst (WritesWant host (writes_of updates version resources division)) (planned_is version version next planned same).1 wants)

  taken_writes : (resources : List Resource) → TellsResources files updates.transfers updates.offers updates.installed.items version (Ok resources)
      → TakenWants host updates version resources (updated.Changes version next) → WritesNext
  taken_writes resources told (inl (division, divides, (planned, wants, same))) = divided_writes resources division planned told divides wants same
  taken_writes resources told (inr (file, count, lacks, same)) = absurd (not_refused version next _ same)

  untaken_none : (e : ResourceErr) → not_taken e ≡ Ok (updated.Changes version next) → ⊥
  untaken_none untaken.OutOfMemory same = cc same
  untaken_none untaken.Fault same = cc same
  untaken_none (untaken.NotInDepot path) same = cc same
  untaken_none (untaken.FileTooLarge path) same = cc same
  untaken_none (untaken.TextTooLong path) same = cc same
  untaken_none (untaken.Mismatch path listed found) same = cc same
  untaken_none (untaken.BadTree path line) same = cc same

  version_writes : VersionWants files host updates version (updated.Changes version next) → WritesNext
  version_writes (inl (resources, told, wants)) = taken_writes resources told wants
  version_writes (inr (e, told, same)) = absurd (untaken_none e same)

module _ (files : Option Files) (host next : Host) (updates : Updates) (version : List ℕ) where
  -- the version that an update gives is the one that is chosen
  coming_same : (coming : List ℕ) (planned : Planned) → updated.Changes version next ≡ update_of coming planned → version ≡ coming
  coming_same coming planned same = (planned_is version coming next planned same).0

  taken_same : (coming : List ℕ) (resources : List Resource) → TakenWants host updates coming resources (updated.Changes version next) → version ≡ coming
  taken_same coming resources (inl (division, divides, (planned, wants, same))) = coming_same coming planned same
  taken_same coming resources (inr (file, count, lacks, same)) = absurd (not_refused version next _ same)

  version_same : (coming : List ℕ) → VersionWants files host updates coming (updated.Changes version next) → version ≡ coming
  version_same coming (inl (resources, told, wants)) = taken_same coming resources wants
  version_same coming (inr (e, told, same)) = absurd (untaken_none files host next updates version e same)

  choice_writes : (choice : Choice) → ChoiceWants files host updates choice (updated.Changes version next) → WritesNext files host next updates version
  choice_writes (Install place) (coming, there, wants) =
      version_writes files host next updates version (subst (λ v. VersionWants files host updates v (updated.Changes version next)) (sym (version_same coming wants)) wants)
  choice_writes Present same = absurd (not_unchanged version next same)
  choice_writes NoneNewer same = absurd (not_unchanged version next same)
  choice_writes NoSuch same = absurd (not_refused version next _ same)

pub update_writes : UpdatesWrite
update_writes files host next updates wanted version (choice, chooses, wants) = choice_writes files host next updates version choice wants

pub updates_keep_protected : UpdatesKeepProtected
updates_keep_protected files host next updates wanted version item wants is =
    let all = update_writes files host next updates wanted version wants in
    stays_stands host next (writes_of updates version all.0 all.1) item.path all.4 (writes_pieces updates version all.0 all.1)
    (protected_stays_at updates.transfers updates.installed.items (Some version) all.1 item all.3 is)

removal_same : (p q : List (List (List ℕ))) (a b : Host) → vacuumed.Changes p a ≡ vacuumed.Changes q b → (p ≡ q) × (a ≡ b)
removal_same p q a b same = (cc, cc)

removal_is : (removed gone : List (List (List ℕ))) (next : Host) (planned : Planned) → vacuumed.Changes removed next ≡ vacuum_of gone planned
    → (removed ≡ gone) × (planned ≡ plans.Next next)
removal_is removed gone next (plans.Next n) same =
    let both = removal_same removed gone next n same in
    (both.0, ap (λ (h : Host). plans.Next h) (sym both.1))
removal_is removed gone next (plans.Refused refusal) same = cc same

room_not_refused : (removed : List (List (List ℕ))) (next : Host) (refusal : UpdateRefusal) → vacuumed.Changes removed next ≡ vacuumed.Refused refusal → ⊥
room_not_refused removed next refusal same = cc same

room_not_unchanged : (removed : List (List (List ℕ))) (next : Host) → vacuumed.Changes removed next ≡ vacuumed.Unchanged → ⊥
room_not_unchanged removed next same = cc same

module _ (host next : Host) (transfers : List Transfer) (items : List Instance) (removed : List (List (List ℕ))) where
  -- what goes where room is made
  abbrev RemovesNext : Type 0
  RemovesNext =
      (division : Division) × IsDivision transfers None items division × (removed ≡ division.removed)
      × WritesWant host (no_writes division) (plans.Next next)

  planned_removes : (gone : List (List (List ℕ))) (division : Division) (planned : Planned) → IsDivision transfers None items division
      → gone ≡ division.removed → WritesWant host (no_writes division) planned → vacuumed.Changes removed next ≡ vacuum_of gone planned → RemovesNext
  planned_removes gone division planned divides all wants same =
      let both = removal_is removed gone next planned same in
      (division, divides, both.0 ∙ all, subst (WritesWant host (no_writes division)) both.1 wants)

  gone_removes : (gone : List (List (List ℕ))) (division : Division) → IsDivision transfers None items division
      → gone ≡ division.removed → GoneWants host division gone (vacuumed.Changes removed next) → RemovesNext
  gone_removes [] division divides all same = absurd (room_not_unchanged removed next same)
  gone_removes (p ∷ ps) division divides all (planned, wants, same) = planned_removes (p ∷ ps) division planned divides all wants same

pub vacuum_removes : VacuumsRemove
vacuum_removes host next transfers items removed (inl (division, divides, wants)) = gone_removes host next transfers items removed division.removed division divides refl wants
vacuum_removes host next transfers items removed (inr (file, count, lacks, same)) = absurd (room_not_refused removed next _ same)

pub vacuums_keep_protected : VacuumsKeepProtected
vacuums_keep_protected host next transfers items removed item wants is =
    let all = vacuum_removes host next transfers items removed wants in
    stays_stands host next (no_writes all.0) item.path all.3 tt (protected_stays_at transfers items None all.0 item all.1 is)
