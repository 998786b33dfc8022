-- A command `sysupdate` wants one thing, where it is told of each file what it has, and the depot tells its files.
use Rattle.std.proofs.Common.{◌≡◌, ℕ, List, Option, Some, None, Result, Ok, Err, inl, inr, sym, ap, ◌∙◌, subst}
use Rattle.std.specs.Prelude.{map, reverse, slice_get}
use Rattle.ext_depot.specs.Depot.{Files}
use Rattle.ext_tree.specs.Tree.{Entries}
use Rattle.ext_host.specs.Held.{HeldFile}
use Rattle.ext_host.specs.Shelf.{Told}
use Rattle.ext_host.specs.declared.host.Host.{Host}
use Rattle.ext_transfer.specs.declared.transfer.Transfer.{Transfer}
use Rattle.ext_versions.specs.Laws.{OneOfVersions}
use Rattle.ext_configs.specs.Laws.{OneComponentList}
use Rattle.ext_feature.specs.Laws.{AreFromText, GivesOneText, IsFromText, OneActive, OneFeatures}
use Rattle.ext_feature.specs.declared.errors.ActiveErr.{ActiveErr}
use Rattle.ext_feature.specs.declared.errors.ActiveErr.TheVariants as inactive
use Rattle.ext_feature.specs.declared.errors.FeaturesErr.{FeaturesErr}
use Rattle.ext_feature.specs.declared.errors.FeaturesErr.TheVariants as unfeatured
use Rattle.ext_feature.specs.declared.feature.Feature.{Feature}
use Rattle.ext_available.specs.Laws.{OneAvailable, OneTold}
use Rattle.ext_available.specs.Reading.{AreTold}
use Rattle.ext_available.specs.declared.offer.Offer.{Offer}
use Rattle.ext_installed.specs.Installed.{AreInstalled}
use Rattle.ext_installed.specs.Laws.{OneInstalled}
use Rattle.ext_installed.specs.declared.instance.Instance.{Instance}
use Rattle.ext_installed.specs.declared.instance.Instances.{Instances}
use Rattle.ext_choice.specs.Laws.{OneChoice}
use Rattle.ext_choice.specs.declared.choosing.Choice.TheVariants.{Install, NoneNewer}
use Rattle.ext_update.specs.Laws.{OneUpdate, OneVacuumPlan}
use Rattle.ext_view.specs.Laws.{TellsAll}
use Rattle.ext_view.proofs.ForCallers.{one_base, one_given}
use Rattle.ext_cmd.specs.declared.answer.Answer.TheVariants as answers
use Rattle.ext_cmd.specs.declared.answer.VersionItem.{VersionItem}
use Rattle.ext_cmd.specs.declared.command.UpdateVerb.{UpdateVerb}
use Rattle.ext_cmd.specs.declared.command.UpdateVerb.TheVariants as verbs
use Rattle.ext_cmd.specs.declared.refusal.Refusal.{Refusal}
use Rattle.ext_intents.specs.Sysupdate.{ChecksNew, ComponentsWants, FeaturesWants, Lists, RoomWants, VerbWants, VerbWantsOf, WantsByUpdates, feature_item, not_featured}
use Rattle.ext_intents.specs.Updates.{AreNoTransfers, AreNoUpdates, AreOn, AreUpdates, not_active, not_offered, version_item}
use Rattle.ext_intents.specs.Updating.{ByUpdate, ByVacuum, update_intent, vacuum_intent}
use Rattle.ext_intents.specs.declared.intent.Intent.{Intent}
use Rattle.ext_intents.specs.declared.intent.Intent.TheVariants.{Answers, Refuses}
use Rattle.ext_intents.specs.declared.updates.Looked.TheVariants.{Refused}
use Rattle.ext_update.specs.declared.updates.Updates.{Updates}

-- the laws of updates that it rests on
pub record UpdateLaws : Type 0 where
  pub one_features : OneFeatures
  pub one_active : OneActive
  pub one_told : OneTold
  pub one_available : OneAvailable
  pub one_installed : OneInstalled HeldFile
  pub one_versions : OneOfVersions
  pub one_choice : OneChoice
  pub one_components : OneComponentList HeldFile
  pub one_update : OneUpdate
  pub one_vacuum : OneVacuumPlan

-- a result of these types
abbrev ok_of : (X E : Type 0) → X → Result X E
ok_of X E a = Ok a

abbrev err_of : (X E : Type 0) → E → Result X E
err_of X E e = Err e

-- equal values in an answer
ok_same : {X E : Type 0} (a b : X) → ok_of X E a ≡ ok_of X E b → a ≡ b
ok_same a b same = cc

-- what is told of an error as a refusal comes from a text
active_from_text : (error : ActiveErr) (refusal : Refusal) → not_active error ≡ Ok refusal → IsFromText (Err error)
active_from_text inactive.OutOfMemory refusal is = cc
active_from_text (inactive.BadFeature file line why) refusal is = tt
active_from_text (inactive.BadHostRelease line) refusal is = tt
active_from_text inactive.NoTransfers refusal is = tt
active_from_text (inactive.BadTransfer file line why) refusal is = tt
active_from_text inactive.NoneOn refusal is = tt
active_from_text (inactive.Shelf e) refusal is = cc

features_from_text : (error : FeaturesErr) (refusal : Refusal) → not_featured error ≡ Ok (Refuses refusal) → AreFromText (Err error)
features_from_text unfeatured.OutOfMemory refusal is = cc
features_from_text (unfeatured.BadFeature file line why) refusal is = tt
features_from_text (unfeatured.Shelf e) refusal is = cc

refused_same : (a b : Refusal) → Refused a ≡ Refused b → a ≡ b
refused_same a b same = cc

refuses_same : (a b : Refusal) → Refuses a ≡ Refuses b → a ≡ b
refuses_same a b same = cc

err_same : {X E : Type 0} (a b : E) → err_of X E a ≡ err_of X E b → a ≡ b
err_same a b same = cc

install_same : (a b : ℕ) → Install a ≡ Install b → a ≡ b
install_same a b same = cc

no_install : (a : ℕ) → Install a ≡ NoneNewer → ⊥
no_install a same = cc

some_same : {X : Type 0} (a b : X) → Some a ≡ Some b → a ≡ b
some_same a b same = cc

ok_err : {X E : Type 0} (a : X) (e : E) → ok_of X E a ≡ err_of X E e → ⊥
ok_err a e same = cc

-- updates with these parts
abbrev updates_with : List Transfer → List (List Offer) → List (List ℕ) → Instances → Updates
updates_with transfers offers available installed = record { transfers = transfers; offers = offers; available = available; installed = installed }

module _ (laws : UpdateLaws) (told : HeldFile → Told) (tells : TellsAll told) (files : Files) (host : Host) (base : Entries HeldFile) (component : Option (List ℕ)) where
  one_text : GivesOneText told
  one_text held a b x y = one_given (told held) held a b (tells held) x y

  on_once : (a b : List Transfer) → AreOn told (Some files) host base component a → AreOn told (Some files) host base component b → a ≡ b
  on_once a b x y = ok_same a b (laws.one_active told 0 0 0 0 base host.arch component (Ok a) (Ok b) one_text tt tt x y)

  offers_once : (transfers : List Transfer) (a b : List (List Offer)) → AreTold (Some files) transfers (Ok a) → AreTold (Some files) transfers (Ok b) → a ≡ b
  offers_once transfers a b x y = ok_same a b (laws.one_told files transfers (Ok a) (Ok b) x y)

  updates_same : (x y : Updates) → x.transfers ≡ y.transfers → x.offers ≡ y.offers → x.available ≡ y.available → x.installed ≡ y.installed → x ≡ y
  updates_same x y transfers offers available installed =
      ap (λ ts. updates_with ts x.offers x.available x.installed) transfers ∙ ap (λ os. updates_with y.transfers os x.available x.installed) offers
      ∙ ap (λ vs. updates_with y.transfers y.offers vs x.installed) available ∙ ap (λ is. updates_with y.transfers y.offers y.available is) installed

  updates_once : (x y : Updates) → AreUpdates told (Some files) host base component x → AreUpdates told (Some files) host base component y → x ≡ y
  updates_once x y p q =
      let transfers : x.transfers ≡ y.transfers = on_once x.transfers y.transfers p.active q.active in
      let offers : x.offers ≡ y.offers = offers_once y.transfers x.offers y.offers (subst (λ t. AreTold (Some files) t (Ok x.offers)) transfers p.offered) q.offered in
      updates_same x y transfers offers
      (laws.one_available y.transfers y.offers x.available y.available (rw (sym transfers, sym offers) p.available) q.available)
      (laws.one_installed base y.transfers x.installed y.installed (rw (sym transfers) p.installed) q.installed)

  none_once : (a b : Refusal) → AreNoUpdates told (Some files) host base component a → AreNoUpdates told (Some files) host base component b → a ≡ b
  none_once a b (inl (e, gives, is)) (inl (f, also, same)) =
      let one : e ≡ f = err_same e f (laws.one_active told 0 0 0 0 base host.arch component (Err e) (Err f) one_text (active_from_text e a is) (active_from_text f b same) gives also) in
      ok_same a b (sym is ∙ ap not_active one ∙ same)
  none_once a b (inl (e, gives, is)) (inr (transfers, f, on, offered, same)) =
      absurd (ok_err transfers e (laws.one_active told 0 0 0 0 base host.arch component (Ok transfers) (Err e) one_text tt (active_from_text e a is) on gives))
  none_once a b (inr (transfers, e, on, offered, is)) (inl (f, gives, same)) =
      absurd (ok_err transfers f (laws.one_active told 0 0 0 0 base host.arch component (Ok transfers) (Err f) one_text tt (active_from_text f b same) on gives))
  none_once a b (inr (transfers, e, on, offered, is)) (inr (others, f, also, told_too, same)) =
      let ts : transfers ≡ others = on_once transfers others on also in
      let one : e ≡ f = err_same e f (laws.one_told files others (Err e) (Err f) (subst (λ t. AreTold (Some files) t (Err e)) ts offered) told_too) in
      refused_same a b (ok_same (Refused a) (Refused b) (sym is ∙ ap not_offered one ∙ same))

  not_both : (x : Updates) (a : Refusal) → AreUpdates told (Some files) host base component x → AreNoUpdates told (Some files) host base component a → ⊥
  not_both x a p (inl (e, gives, is)) =
      ok_err x.transfers e (laws.one_active told 0 0 0 0 base host.arch component (Ok x.transfers) (Err e) one_text tt (active_from_text e a is) p.active gives)
  not_both x a p (inr (transfers, e, on, offered, is)) =
      let ts : x.transfers ≡ transfers = on_once x.transfers transfers p.active on in
      ok_err x.offers e (laws.one_told files transfers (Ok x.offers) (Err e) (subst (λ t. AreTold (Some files) t (Ok x.offers)) ts p.offered) offered)

  by_once : (By : Updates → Intent → Type 0) (a b : Intent) → ((updates : Updates) (x y : Intent) → AreUpdates told (Some files) host base component updates → By updates x → By updates y → x ≡ y)
      → WantsByUpdates told (Some files) host base component By a → WantsByUpdates told (Some files) host base component By b → a ≡ b
  by_once By a b once (inl (x, p, by)) (inl (y, q, also)) = once y a b q (subst (λ u. By u a) (updates_once x y p q) by) also
  by_once By a b once (inl (x, p, by)) (inr (refusal, none, is)) = absurd (not_both x refusal p none)
  by_once By a b once (inr (refusal, none, is)) (inl (y, q, also)) = absurd (not_both y refusal q none)
  by_once By a b once (inr (refusal, none, is)) (inr (other, same, also)) = is ∙ ap Refuses (none_once refusal other none same) ∙ sym also

  features_once : (a b : Intent) → FeaturesWants told (Some files) host base component a → FeaturesWants told (Some files) host base component b → a ≡ b
  features_once a b (inl (x, gives, is)) (inl (y, also, same)) =
      let one : x ≡ y = ok_same x y (laws.one_features told 0 0 0 0 base component (Ok x) (Ok y) one_text tt tt gives also) in
      is ∙ ap (λ (l : List Feature). Answers (answers.Features (map feature_item l))) one ∙ sym same
  features_once a b (inl (x, gives, is)) (inr (e, refusal, also, why, same)) =
      absurd (ok_err x e (laws.one_features told 0 0 0 0 base component (Ok x) (Err e) one_text tt (features_from_text e refusal why) gives also))
  features_once a b (inr (e, refusal, gives, why, is)) (inl (y, also, same)) =
      absurd (ok_err y e (laws.one_features told 0 0 0 0 base component (Ok y) (Err e) one_text tt (features_from_text e refusal why) also gives))
  features_once a b (inr (e, refusal, gives, why, is)) (inr (f, other, also, reason, same)) =
      let one : e ≡ f = err_same e f (laws.one_features told 0 0 0 0 base component (Err e) (Err f) one_text (features_from_text e refusal why) (features_from_text f other reason) gives also) in
      let refused : refusal ≡ other = refuses_same refusal other (ok_same (Refuses refusal) (Refuses other) (sym why ∙ ap not_featured one ∙ reason)) in
      is ∙ ap Refuses refused ∙ sym same

  lists_once : (updates : Updates) (a b : Intent) → AreUpdates told (Some files) host base component updates → Lists updates a → Lists updates b → a ≡ b
  lists_once updates a b are_updates (items, (versions, known, are), is) (others, (rest, also, same), so) =
      let one : versions ≡ rest = laws.one_versions _ versions rest known also in
      let item : items ≡ others = are ∙ ap (λ (l : List (List ℕ)). reverse (map (version_item updates) l)) one ∙ sym same in
      is ∙ ap (λ (l : List VersionItem). Answers (answers.Versions l)) item ∙ sym so

  checks_once : (updates : Updates) (a b : Intent) → AreUpdates told (Some files) host base component updates → ChecksNew updates a → ChecksNew updates b → a ≡ b
  checks_once updates a b are (inl (place, version, chosen, there, is)) (inl (other, another, also, stands, same)) =
      let choice = laws.one_choice updates.available updates.installed.versions None (Install place) (Install other) are.available.order chosen also in
      let places : place ≡ other = install_same place other choice in
      let one : Some version ≡ Some another = sym there ∙ ap (λ p. slice_get updates.available p) places ∙ stands in
      is ∙ ap (λ v. Answers (answers.Version v)) (some_same version another one) ∙ sym same
  checks_once updates a b are (inl (place, version, chosen, there, is)) (inr (none, same)) =
      absurd (no_install place (laws.one_choice updates.available updates.installed.versions None (Install place) NoneNewer are.available.order chosen none))
  checks_once updates a b are (inr (none, is)) (inl (other, another, also, stands, same)) =
      absurd (no_install other (laws.one_choice updates.available updates.installed.versions None (Install other) NoneNewer are.available.order also none))
  checks_once updates a b are (inr (none, is)) (inr (other, same)) = is ∙ sym same

  updated_once : (wanted : Option (List ℕ)) (updates : Updates) (a b : Intent) → AreUpdates told (Some files) host base component updates → ByUpdate (Some files) host wanted updates a → ByUpdate (Some files) host wanted updates b → a ≡ b
  updated_once wanted updates a b are (x, wants, planned, is) (y, also, other, same) =
      is ∙ ap (update_intent wanted) (laws.one_update files host updates wanted x y are.available.order wants also) ∙ sym same

  vacuumed_once : (transfers : List Transfer) (items : List Instance) (a b : Intent) → ByVacuum host transfers items a → ByVacuum host transfers items b → a ≡ b
  vacuumed_once transfers items a b (x, wants, planned, is) (y, also, other, same) =
      is ∙ ap vacuum_intent (laws.one_vacuum host transfers items x y wants also) ∙ sym same

  no_transfers_once : (a b : Refusal) → AreNoTransfers told (Some files) host base component a → AreNoTransfers told (Some files) host base component b → a ≡ b
  no_transfers_once a b (e, gives, is) (f, also, same) = none_once a b (inl (e, gives, is)) (inl (f, also, same))

  no_transfers_on : (transfers : List Transfer) (a : Refusal) → AreOn told (Some files) host base component transfers → AreNoTransfers told (Some files) host base component a → ⊥
  no_transfers_on transfers a on (e, gives, is) =
      ok_err transfers e (laws.one_active told 0 0 0 0 base host.arch component (Ok transfers) (Err e) one_text tt (active_from_text e a is) on gives)

  room_once : (a b : Intent) → RoomWants told (Some files) host base component a → RoomWants told (Some files) host base component b → a ≡ b
  room_once a b (inl (x, i, on, are, by)) (inl (y, j, also, too, same)) =
      let transfers : x ≡ y = on_once x y on also in
      let installed : i ≡ j = laws.one_installed base y i j (subst (λ t. AreInstalled base t i) transfers are) too in
      vacuumed_once y j.items a b
      (subst (λ (k : Instances). ByVacuum host y k.items a) installed (subst (λ t. ByVacuum host t i.items a) transfers by)) same
  room_once a b (inl (x, i, on, are, by)) (inr (refusal, none, is)) = absurd (no_transfers_on x refusal on none)
  room_once a b (inr (refusal, none, is)) (inl (y, j, on, are, by)) = absurd (no_transfers_on y refusal on none)
  room_once a b (inr (refusal, none, is)) (inr (other, same, also)) = is ∙ ap Refuses (no_transfers_once refusal other none same) ∙ sym also

  verb_once : (verb : UpdateVerb) (a b : Intent) → VerbWantsOf told (Some files) host base component verb a → VerbWantsOf told (Some files) host base component verb b → a ≡ b
  verb_once verbs.List a b x y = by_once Lists a b lists_once x y
  verb_once verbs.CheckNew a b x y = by_once ChecksNew a b checks_once x y
  verb_once (verbs.Update wanted) a b x y = by_once (ByUpdate (Some files) host wanted) a b (updated_once wanted) x y
  verb_once verbs.Vacuum a b x y = room_once a b x y
  verb_once verbs.Features a b x y = features_once a b x y

pub update_once : (laws : UpdateLaws) (host : Host) (told : HeldFile → Told) (tells : TellsAll told) (files : Files) (component : Option (List ℕ)) (verb : UpdateVerb) (a b : Intent) → VerbWants host told (Some files) component verb a → VerbWants host told (Some files) component verb b → a ≡ b
update_once laws host told tells files component verb a b (base, is, wants) (other, also, others) =
    let one : base ≡ other = one_base host base other is also in
    verb_once laws told tells files host other component verb a b (subst (λ es. VerbWantsOf told (Some files) host es component verb a) one wants) others

pub components_once : (laws : UpdateLaws) (host : Host) (a b : Intent) → ComponentsWants host a → ComponentsWants host b → a ≡ b
components_once laws host a b (base, is, (names, are, wants)) (other, also, (others, same, so)) =
    let one : base ≡ other = one_base host base other is also in
    let list : names ≡ others = laws.one_components other names others (rw (sym one) are) same in
    wants ∙ ap (λ (l : List (List ℕ)). Answers (answers.Components l)) list ∙ sym so
