-- One thing is wanted.
use Rattle.std.proofs.Common.{◌≡◌, ◌≢◌, ℕ, ◌+◌, ◌<◌, Bool, true, false, ◌||◌, List, [], ◌∷◌, ◌++◌, Option, Some, None, Result, Ok, Err, refl, sym, ap, ◌∙◌, subst, arith}
use Rattle.std.specs.Prelude.{slice_get}
use mathlib.Core.Logic.{inl, inr}
use Rattle.std.specs.Ordering.{is_eq, ordering_reverse}
use Rattle.std.specs.declared.cmp.Ordering.TheVariants.{Less, Equal, Greater}
use Rattle.std.proofs.lemmas.Bool.{cases_lt}
use Rattle.std.proofs.lemmas.List.Folds.{list_any-append}
use Rattle.std.proofs.lemmas.Option.{same_Some}
use Rattle.ext_text.specs.Order.{paths_total}
use Rattle.ext_text.specs.Path.{are_related, path_cmp}
use Rattle.ext_text.specs.SortedPaths.{meets}
use Rattle.ext_text.specs.declared.which.Which.{Which}
use Rattle.ext_text.proofs.ForCallers.{same_path}
use Rattle.ext_depot.specs.Depot.{Files}
use Rattle.ext_tree.specs.Tree.{Entries}
use Rattle.ext_host.specs.Held.{HeldFile}
use Rattle.ext_host.specs.Limits.{passed_limit}
use Rattle.ext_host.specs.declared.host.Host.{Host}
use Rattle.ext_host.specs.declared.manifest.Manifest.{Manifest}
use Rattle.ext_transfer.specs.declared.transfer.Transfer.{Transfer}
use Rattle.ext_installed.specs.declared.instance.Instance.{Instance}
use Rattle.ext_choice.specs.Room.{LacksRoom}
use Rattle.ext_choice.specs.Vacuum.{IsDivision, LacksFirst, of_transfer}
use Rattle.ext_choice.specs.declared.choosing.Choice.{Choice}
use Rattle.ext_choice.specs.declared.choosing.Choice.TheVariants.{Install, Present, NoneNewer, NoSuch}
use Rattle.ext_choice.specs.declared.division.Division.{Division}
use Rattle.ext_choice.proofs.ForCallers.{no_lack, one_choice, one_lack, one_vacuum}
use Rattle.ext_resources.specs.Laws as resource_laws
use Rattle.ext_resources.specs.declared.resource.Resource.{Resource}
use Rattle.ext_resources.specs.declared.resource_err.ResourceErr.{ResourceErr}
use Rattle.ext_updated.specs.Clash.{IsInTheWay}
use Rattle.ext_updated.specs.Clash.IsInTheWay.{meets_another, written_meets, removed_meets, resource_over, link_over}
use Rattle.ext_updated.specs.Items.{written}
use Rattle.ext_updated.proofs.ForCallers.{one_updated}
use Rattle.ext_update.specs.Laws.{OneUpdate, OneVacuumPlan}
use Rattle.ext_update.specs.Stages.{AreKept, ClashWants, FittingWants, IsBlocking, IsLocked, IsOfResource, OpenWants, SizedWants, UnlessLeast, Writes, WritesWant, items_of, written_pieces}
use Rattle.ext_update.specs.Untaken.{not_taken}
use Rattle.ext_update.specs.Update.{ChoiceWants, DividedWants, TakenWants, VersionWants, update_of, writes_of}
use Rattle.ext_update.specs.Vacuum.{GoneWants, no_writes, vacuum_of}
use Rattle.ext_update.specs.declared.planned.Planned.{Planned}
use Rattle.ext_update.specs.declared.planned.Planned.TheVariants.{Next, Refused}
use Rattle.ext_update.specs.declared.planned.Update.{Update}
use Rattle.ext_update.specs.declared.planned.Update.TheVariants as updated
use Rattle.ext_update.specs.declared.planned.Vacuum.{Vacuum}
use Rattle.ext_update.specs.declared.planned.Vacuum.TheVariants as vacuumed
use Rattle.ext_update.specs.declared.refusal.UpdateRefusal.TheVariants as refusals
use Rattle.ext_update.specs.declared.update_err.UpdateErr.{UpdateErr}
use Rattle.ext_update.specs.declared.updates.Updates.{Updates}
use Rattle.ext_update.proofs.FindLemmas.{passed, passer}
use Rattle.ext_update.proofs.NextLemmas.{same_ascending}

-- the least path is one
order_once : (p q : List (List ℕ)) → path_cmp q p ≢ Less → path_cmp p q ≢ Less → p ≡ q
order_once p q above below = elim (path_cmp p q) as (λ o. path_cmp p q ≡ o → p ≡ q) [
  | Less ↦ λ is. absurd (below is)
  | Equal ↦ λ is. same_path p q (ap is_eq is)
  | Greater ↦ λ is. absurd (above (paths_total.antisymm q p ∙ ap ordering_reverse is))
] refl

unless_once : (Holds : List (List ℕ) → Type 0) (refused : List (List ℕ) → Planned) (Wants : Planned → Type 0) → ((a b : Planned) → Wants a → Wants b → a ≡ b)
    → (a b : Planned) → UnlessLeast Holds refused Wants a → UnlessLeast Holds refused Wants b → a ≡ b
unless_once Holds refused Wants once a b (inl (none, x)) (inl (also, y)) = once a b x y
unless_once Holds refused Wants once a b (inl (none, x)) (inr (p, least, is)) = absurd (none p least.holds)
unless_once Holds refused Wants once a b (inr (p, least, is)) (inl (none, y)) = absurd (none p least.holds)
unless_once Holds refused Wants once a b (inr (p, least, is)) (inr (q, lowest, same)) =
    is ∙ ap refused (order_once p q (least.least q lowest.holds) (lowest.least p least.holds)) ∙ sym same

module _ (host : Host) (writes : Writes) where
  kept_once : (root : Entries HeldFile) (a b : List Manifest) → AreKept host writes root a → AreKept host writes root b → a ≡ b
  kept_once root a b x y = same_ascending (λ (m : Manifest). m.path) a b x.order y.order (λ m at. (y.same m).1 ((x.same m).0 at)) (λ m at. (x.same m).1 ((y.same m).0 at))

  sized_once : (root : Entries HeldFile) (limit : Option Which) (a b : Planned) → SizedWants host writes root limit a → SizedWants host writes root limit b → a ≡ b
  sized_once root None a b (kept, are, is) (other, also, same) =
      is ∙ ap (λ (ms : List Manifest). Next (record host { root = root; kept = ms })) (kept_once root kept other are also) ∙ sym same
  sized_once root (Some which) a b is same = is ∙ sym same

  fitting_once : (a b : Planned) → FittingWants host writes a → FittingWants host writes b → a ≡ b
  fitting_once a b (inl (fits, (root, updated, wants))) (inl (also, (other, same, too))) =
      let one = one_updated host.root writes.removed (written_pieces writes) root other updated same in
      sized_once other (passed_limit other host.lower) a b (subst (λ es. SizedWants host writes es (passed_limit es host.lower) a) one wants) too
  fitting_once a b (inl (fits, x)) (inr (unfit, is)) = absurd (unfit fits)
  fitting_once a b (inr (unfit, is)) (inl (fits, y)) = absurd (unfit fits)
  fitting_once a b (inr (unfit, is)) (inr (also, same)) = is ∙ sym same

  -- of what is written and removed one thing is wanted
  pub writes_once : (a b : Planned) → WritesWant host writes a → WritesWant host writes b → a ≡ b
  writes_once a b x y =
      unless_once (IsLocked host writes) (λ p. Refused (refusals.ReadOnly p)) (ClashWants host writes)
      (λ c d. unless_once (IsInTheWay host.root (items_of writes)) (λ p. Refused (refusals.Clash p)) (OpenWants host writes)
      (λ e f. unless_once (IsBlocking host writes) (λ p. Refused (refusals.NotDirectory p)) (FittingWants host writes) fitting_once e f) c d) a b x y

unless_to : (H K : List (List ℕ) → Type 0) (refused : List (List ℕ) → Planned) (W V : Planned → Type 0) → ((p : List (List ℕ)) → H p → K p) → ((p : List (List ℕ)) → K p → H p)
    → ((x : Planned) → W x → V x) → (x : Planned) → UnlessLeast H refused W x → UnlessLeast K refused V x
unless_to H K refused W V there back goes x (inl (none, w)) = inl ((λ p k. none p (back p k)), goes x w)
unless_to H K refused W V there back goes x (inr (p, least, is)) = inr (p, record { holds = there p least.holds; least = λ q k. least.least q (back q k) }, is)

meets_both : (xs ys zs : List (List (List ℕ))) (q : List (List ℕ)) → meets ys q ≡ meets zs q → meets (xs ++ ys) q ≡ meets (xs ++ zs) q
meets_both xs ys zs q same = list_any-append (λ p. are_related p q) xs ys ∙ ap (λ b. meets xs q || b) same ∙ sym (list_any-append (λ p. are_related p q) xs zs)

-- what stays counts by the paths that it is related to
module _ (host : Host) (w : Writes) (staying : List (List (List ℕ))) (same : (q : List (List ℕ)) → meets w.staying q ≡ meets staying q) where
  abbrev v : Writes
  v = record w { staying = staying }

  way_to : (p : List (List ℕ)) → IsInTheWay host.root (items_of w) p → IsInTheWay host.root (items_of v) p
  way_to p (meets_another m) = meets_another m
  way_to p (written_meets a m) = written_meets a (sym (meets_both w.removed w.staying staying p (same p)) ∙ m)
  way_to p (removed_meets a m) = removed_meets a (sym (meets_both (written (items_of w)) w.staying staying p (same p)) ∙ m)
  way_to p (resource_over a m) = resource_over a m
  way_to p (link_over a m) = link_over a m

  way_back : (p : List (List ℕ)) → IsInTheWay host.root (items_of v) p → IsInTheWay host.root (items_of w) p
  way_back p (meets_another m) = meets_another m
  way_back p (written_meets a m) = written_meets a (meets_both w.removed w.staying staying p (same p) ∙ m)
  way_back p (removed_meets a m) = removed_meets a (meets_both (written (items_of w)) w.staying staying p (same p) ∙ m)
  way_back p (resource_over a m) = resource_over a m
  way_back p (link_over a m) = link_over a m

  resource_to : (root : Entries HeldFile) (m : Manifest) → IsOfResource w root m → IsOfResource v root m
  resource_to root m is = record { resource = is.resource; files = is.files }

  resource_back : (root : Entries HeldFile) (m : Manifest) → IsOfResource v root m → IsOfResource w root m
  resource_back root m is = record { resource = is.resource; files = is.files }

  kept_to : (root : Entries HeldFile) (kept : List Manifest) → AreKept host w root kept → AreKept host v root kept
  kept_to root kept are = record {
    order = are.order;
    each = are.each;
    same = λ m. (
      (λ at. elim ((are.same m).0 at) [ inl stays ↦ inl stays | inr new ↦ inr (resource_to root m new) ]),
      (λ why. elim why [ inl stays ↦ (are.same m).1 (inl stays) | inr new ↦ (are.same m).1 (inr (resource_back root m new)) ]),
    );
  }

  sized_to : (root : Entries HeldFile) (limit : Option Which) (x : Planned) → SizedWants host w root limit x → SizedWants host v root limit x
  sized_to root None x (kept, are, is) = (kept, kept_to root kept are, is)
  sized_to root (Some which) x is = is

  fitting_to : (x : Planned) → FittingWants host w x → FittingWants host v x
  fitting_to x (inl (fits, (root, updated, wants))) =
      inl (record { resources = fits.resources; links = fits.links }, (root, updated, sized_to root (passed_limit root host.lower) x wants))
  fitting_to x (inr (unfit, is)) = inr ((λ fits. unfit (record { resources = fits.resources; links = fits.links })), is)

  pub writes_to : (x : Planned) → WritesWant host w x → WritesWant host v x
  writes_to x wants =
      unless_to (IsLocked host w) (IsLocked host v) (λ p. Refused (refusals.ReadOnly p)) (ClashWants host w) (ClashWants host v)
      (λ p is. record { touched = is.touched; locked = is.locked }) (λ p is. record { touched = is.touched; locked = is.locked })
      (λ y. unless_to (IsInTheWay host.root (items_of w)) (IsInTheWay host.root (items_of v)) (λ p. Refused (refusals.Clash p)) (OpenWants host w) (OpenWants host v) way_to way_back
      (λ z. unless_to (IsBlocking host w) (IsBlocking host v) (λ p. Refused (refusals.NotDirectory p)) (FittingWants host w) (FittingWants host v)
      (λ p is. record { path = is.path; written = is.written; above = is.above; stands = is.stands })
      (λ p is. record { path = is.path; written = is.written; above = is.above; stands = is.stands }) fitting_to z) y) x wants

both_ways : (a b : Bool) → (a ≡ true → b ≡ true) → (b ≡ true → a ≡ true) → a ≡ b
both_ways true b there back = sym (there refl)
both_ways false true there back = back refl
both_ways false false there back = refl

module _ (transfers : List Transfer) (coming : Option (List ℕ)) (items : List Instance) where
  -- two divisions have the same paths that go, and are related to the same paths by those that stay
  removed_once : (d e : Division) → IsDivision transfers coming items d → IsDivision transfers coming items e → d.removed ≡ e.removed
  removed_once d e x y = one_vacuum transfers coming items d.removed e.removed x.vacuum y.vacuum

  stay_there : (d e : Division) → IsDivision transfers coming items d → IsDivision transfers coming items e → (q : List (List ℕ)) → meets d.staying q ≡ true → meets e.staying q ≡ true
  stay_there d e x y q met =
      let p = passer (λ r. are_related r q) d.staying met in
      passed (λ r. are_related r q) e.staying p.0 ((y.others p.0).1 ((x.others p.0).0 p.1)) p.2

  staying_once : (d e : Division) → IsDivision transfers coming items d → IsDivision transfers coming items e → (q : List (List ℕ)) → meets d.staying q ≡ meets e.staying q
  staying_once d e x y q = both_ways (meets d.staying q) (meets e.staying q) (stay_there d e x y q) (stay_there e d y x q)

  -- where there is room none lacks it
  room_lack : (d : Division) (file : List ℕ) (count : ℕ) → IsDivision transfers coming items d → LacksFirst transfers coming items file count → ⊥
  room_lack d file count x lacks =
      let room = x.vacuum.rooms (lacks.place + 1) lacks.place lacks.transfer (omega arith) lacks.there in
      no_lack lacks.transfer coming (of_transfer lacks.place items) room.0 count room.1 lacks.lacks

  earlier : (f g : List ℕ) (n m : ℕ) (x : LacksFirst transfers coming items f n) (y : LacksFirst transfers coming items g m) → x.place < y.place → ⊥
  earlier f g n m x y less =
      let room = y.before x.place x.transfer less x.there in
      no_lack x.transfer coming (of_transfer x.place items) room.0 n room.1 x.lacks

  lack_once : (f g : List ℕ) (n m : ℕ) → LacksFirst transfers coming items f n → LacksFirst transfers coming items g m → refusals.NoRoom f n ≡ refusals.NoRoom g m
  lack_once f g n m x y = elim (cases_lt x.place y.place) [
    | inl less ↦ absurd (earlier f g n m x y less)
    | inr up ↦ elim (cases_lt y.place x.place) [
      | inl less ↦ absurd (earlier g f m n y x less)
      | inr down ↦
          let at : x.place ≡ y.place = omega (arith, up, down) in
          let one : x.transfer ≡ y.transfer = same_Some x.transfer y.transfer (sym x.there ∙ ap (slice_get transfers) at ∙ y.there) in
          let lacks : LacksRoom y.transfer coming (of_transfer y.place items) n = subst (λ k. LacksRoom y.transfer coming (of_transfer k items) n) at
          (subst (λ (t : Transfer). LacksRoom t coming (of_transfer x.place items) n) one x.lacks) in
          let files : f ≡ g = x.named ∙ ap (λ (t : Transfer). t.file) one ∙ sym y.named in
          let counts : n ≡ m = one_lack y.transfer coming (of_transfer y.place items) n m lacks y.lacks in
          λ i. refusals.NoRoom (files i) (counts i)
    ]
  ]

install_same : (a b : ℕ) → Install a ≡ Install b → a ≡ b
install_same a b same = cc

-- a result of these types
abbrev taken : List Resource → Result (List Resource) ResourceErr
taken resources = Ok resources

abbrev refused_by : ResourceErr → Result (List Resource) ResourceErr
refused_by e = Err e

taken_same : (a b : List Resource) → taken a ≡ taken b → a ≡ b
taken_same a b same = cc

refused_same : (a b : ResourceErr) → refused_by a ≡ refused_by b → a ≡ b
refused_same a b same = cc

never_both : (a : List Resource) (e : ResourceErr) → taken a ≡ refused_by e → ⊥
never_both a e same = cc

abbrev answered : Update → Result Update UpdateErr
answered update = Ok update

answered_same : (a b : Update) → answered a ≡ answered b → a ≡ b
answered_same a b same = cc

module _ (told : resource_laws.OneTaken) (files : Files) (host : Host) (updates : Updates) where
  divided_once : (version : List ℕ) (resources : List Resource) (d e : Division) (a b : Update) → IsDivision updates.transfers (Some version) updates.installed.items d
      → IsDivision updates.transfers (Some version) updates.installed.items e → DividedWants host updates version resources d a → DividedWants host updates version resources e b → a ≡ b
  divided_once version resources d e a b x y (planned, wants, is) (other, also, same) =
      let removed = removed_once updates.transfers (Some version) updates.installed.items d e x y in
      let w = writes_of updates version resources d in
      let moved : WritesWant host (record w { staying = e.staying }) planned = writes_to host w e.staying (staying_once updates.transfers (Some version) updates.installed.items d e x y) planned wants in
      let there : WritesWant host (writes_of updates version resources e) planned = subst (λ (ps : List (List (List ℕ))). WritesWant host (record w { removed = ps; staying = e.staying }) planned) removed moved in
      is ∙ ap (update_of version) (writes_once host (writes_of updates version resources e) planned other there also) ∙ sym same

  taken_once : (version : List ℕ) (resources : List Resource) (a b : Update) → TakenWants host updates version resources a → TakenWants host updates version resources b → a ≡ b
  taken_once version resources a b (inl (d, x, wants)) (inl (e, y, also)) = divided_once version resources d e a b x y wants also
  taken_once version resources a b (inl (d, x, wants)) (inr (f, n, lacks, is)) = absurd (room_lack updates.transfers (Some version) updates.installed.items d f n x lacks)
  taken_once version resources a b (inr (f, n, lacks, is)) (inl (e, y, also)) = absurd (room_lack updates.transfers (Some version) updates.installed.items e f n y lacks)
  taken_once version resources a b (inr (f, n, lacks, is)) (inr (g, m, also, same)) =
      is ∙ ap updated.Refused (lack_once updates.transfers (Some version) updates.installed.items f g n m lacks also) ∙ sym same

  version_once : (version : List ℕ) (a b : Update) → VersionWants (Some files) host updates version a → VersionWants (Some files) host updates version b → a ≡ b
  version_once version a b (inl (resources, tells, wants)) (inl (others, too, also)) =
      let one = taken_same resources others (told files updates.transfers updates.offers updates.installed.items version (Ok resources) (Ok others) tells too) in
      taken_once version others a b (subst (λ rs. TakenWants host updates version rs a) one wants) also
  version_once version a b (inl (resources, tells, wants)) (inr (e, too, is)) =
      absurd (never_both resources e (told files updates.transfers updates.offers updates.installed.items version (Ok resources) (Err e) tells too))
  version_once version a b (inr (e, tells, is)) (inl (others, too, also)) =
      absurd (never_both others e (told files updates.transfers updates.offers updates.installed.items version (Ok others) (Err e) too tells))
  version_once version a b (inr (e, tells, is)) (inr (f, too, same)) =
      let one = refused_same e f (told files updates.transfers updates.offers updates.installed.items version (Err e) (Err f) tells too) in
      answered_same a b (sym is ∙ ap not_taken one ∙ same)

  choice_once : (choice : Choice) (a b : Update) → ChoiceWants (Some files) host updates choice a → ChoiceWants (Some files) host updates choice b → a ≡ b
  choice_once (Install place) a b (v, there, wants) (w, stands, also) =
      version_once w a b (subst (λ x. VersionWants (Some files) host updates x a) (same_Some v w (sym there ∙ stands)) wants) also
  choice_once Present a b is same = is ∙ sym same
  choice_once NoneNewer a b is same = is ∙ sym same
  choice_once NoSuch a b is same = is ∙ sym same

pub update_once : resource_laws.OneTaken → OneUpdate
update_once told files host updates wanted a b ascending (choice, chooses, wants) (other, also, too) =
    let one = one_choice updates.available updates.installed.versions wanted choice other ascending chooses also in
    choice_once told files host updates other a b (subst (λ c. ChoiceWants (Some files) host updates c a) one wants) too

module _ (host : Host) (transfers : List Transfer) (items : List Instance) where
  gone_once : (d : Division) (removed : List (List (List ℕ))) (a b : Vacuum) → GoneWants host d removed a → GoneWants host d removed b → a ≡ b
  gone_once d [] a b is same = is ∙ sym same
  gone_once d (p ∷ ps) a b (planned, wants, is) (other, also, same) =
      is ∙ ap (vacuum_of (p ∷ ps)) (writes_once host (no_writes d) planned other wants also) ∙ sym same

  gone_to : (d e : Division) (removed : List (List (List ℕ))) (a : Vacuum) → IsDivision transfers None items d → IsDivision transfers None items e
      → GoneWants host d removed a → GoneWants host e removed a
  gone_to d e [] a x y is = is
  gone_to d e (p ∷ ps) a x y (planned, wants, is) =
      let removed = removed_once transfers None items d e x y in
      let moved : WritesWant host (record (no_writes d) { staying = e.staying }) planned = writes_to host (no_writes d) e.staying (staying_once transfers None items d e x y) planned wants in
      (planned, subst (λ (qs : List (List (List ℕ))). WritesWant host (record (no_writes d) { removed = qs; staying = e.staying }) planned) removed moved, is)

pub vacuum_once : OneVacuumPlan
vacuum_once host transfers items a b (inl (d, x, wants)) (inl (e, y, also)) =
    let removed = removed_once transfers None items d e x y in
    gone_once host transfers items e e.removed a b (subst (λ (ps : List (List (List ℕ))). GoneWants host e ps a) removed (gone_to host transfers items d e d.removed a x y wants)) also
vacuum_once host transfers items a b (inl (d, x, wants)) (inr (f, n, lacks, is)) = absurd (room_lack transfers None items d f n x lacks)
vacuum_once host transfers items a b (inr (f, n, lacks, is)) (inl (e, y, also)) = absurd (room_lack transfers None items e f n y lacks)
vacuum_once host transfers items a b (inr (f, n, lacks, is)) (inr (g, m, also, same)) =
    is ∙ ap vacuumed.Refused (lack_once transfers None items f g n m lacks also) ∙ sym same
