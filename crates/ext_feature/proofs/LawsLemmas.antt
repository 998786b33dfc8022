-- Each component has one answer, and without names of features all its transfers are on.
use Rattle.std.proofs.Common.{◌≡◌, ℕ, ◌<◌, Bool, true, cond, ◌&&◌, List, [], ◌∷◌, length, Some, None, Result, Ok, Err, ◌⊎◌, inl, inr, refl, sym, ap, ◌∙◌, subst, arith}
use Rattle.std.specs.Prelude.{Option}
use Rattle.std.specs.List.{Contains, filter, list_all}
use Rattle.ext_text.specs.declared.arch.Arch.{Arch}
use Rattle.ext_tree.specs.Tree.{Entries}
use Rattle.ext_walk.specs.Leads.{LeadsTo}
use Rattle.ext_release.specs.Laws.{NoFaultInRelease, OneFault, OneRelease}
use Rattle.ext_release.specs.Release.{IsFirstFault, IsRelease}
use Rattle.ext_host.specs.Held.{HeldFile}
use Rattle.ext_host.specs.Planning.{content_size}
use Rattle.ext_host.specs.Shelf.{Told}
use Rattle.ext_find.specs.Content.{is_file_at}
use Rattle.ext_find.specs.HostRelease.{IsReleaseFile, LeadsToContent, ReleaseFileAt, own_release, vendor_release}
use Rattle.ext_transfer.specs.Feature.{feature_of}
use Rattle.ext_transfer.specs.Transfer.{transfer_of}
use Rattle.ext_transfer.specs.declared.err.TransferErr.TheVariants as unread_transfer
use Rattle.ext_transfer.specs.declared.err.TransferFault.{TransferFault}
use Rattle.ext_transfer.specs.declared.feature.FeatureErr.TheVariants as unread_feature
use Rattle.ext_transfer.specs.declared.feature.FeatureFault.{FeatureFault}
use Rattle.ext_transfer.specs.declared.transfer.Transfer.{Transfer}
use Rattle.ext_configs.proofs.ForCallers.{one_config}
use Rattle.ext_configs.specs.declared.kind.ConfigKind.{ConfigKind}
use Rattle.ext_configs.specs.declared.kind.ConfigKind.TheVariants as kinds
use Rattle.ext_feature.specs.Active.{ActiveGives, AreTransfersOf, IsFirstBadTransfer, IsReleaseOfHost, IsSoundTransfer, ReleaseFileHas, ReleaseOfHost, SaysTransfer}
use Rattle.ext_feature.specs.Chosen.{has_on, has_one_on, is_on}
use Rattle.ext_feature.specs.Features.{AreFeaturesOf, IsFirstBadFeature, IsSoundFeature, SaysFeature, feature_file}
use Rattle.ext_feature.specs.Files.{AreFromFiles, FileHas, HasNone, IsFirstBadFile, IsGivenWith}
use Rattle.ext_feature.specs.Laws.{AllAreOn, GivesOneText, IsFromText, NamesNoFeature, OneActive, OneFeatures, SomeAreOn}
use Rattle.ext_feature.specs.declared.errors.ActiveErr.{ActiveErr}
use Rattle.ext_feature.specs.declared.errors.ActiveErr.TheVariants as active_errors
use Rattle.ext_feature.specs.declared.errors.FeaturesErr.TheVariants as features_errors
use Rattle.ext_feature.specs.declared.feature.Feature.{Feature}
use Rattle.ext_feature.proofs.ConfigLemmas.{one_content}
use Rattle.ext_feature.proofs.ListLemmas.{first_in, later_in}
use Rattle.ext_feature.proofs.NameLemmas.{one_feature_name}
use Rattle.ext_feature.proofs.OrderLemmas.{one_in_order, which_first}

-- names that lead to a content lead to a file
leads_to_file : (es : Entries HeldFile) (names : List (List ℕ)) (a : HeldFile) → LeadsToContent es names a → LeadsTo is_file_at es names
leads_to_file es names a x = (x.0, x.2, ap is_file_at x.3)

-- a host has one release file
one_release_file : (es : Entries HeldFile) (a b : HeldFile) → IsReleaseFile es a → IsReleaseFile es b → a ≡ b
one_release_file es a b (inl x) (inl y) = one_content es own_release a b x y
one_release_file es a b (inl x) (inr y) = absurd (y.0 (leads_to_file es own_release a x))
one_release_file es a b (inr x) (inl y) = absurd (x.0 (leads_to_file es own_release b y))
one_release_file es a b (inr x) (inr y) = one_content es vendor_release a b x.1 y.1

-- or none
no_release_file : (es : Entries HeldFile) (a : HeldFile) → ReleaseFileAt es None → ¬ IsReleaseFile es a
no_release_file es a none (inl x) = none.0 (leads_to_file es own_release a x)
no_release_file es a none (inr x) = none.1 (leads_to_file es vendor_release a x.1)

-- the laws of release files
pub record OfReleases : Type 0 where
  pub one_release : OneRelease
  pub not_both : NoFaultInRelease
  pub one_fault : OneFault

module _ (told : HeldFile → Told) (one_text : GivesOneText told) where
  -- what two texts of one file have, one has
  same_text : (a b : HeldFile) (P Q : List ℕ → Type 0) → a ≡ b → IsGivenWith told a P → IsGivenWith told b Q → (bytes : List ℕ) × P bytes × Q bytes
  same_text a b P Q same x y =
      let here : IsGivenWith told b P = subst (λ h. IsGivenWith told h P) same x in
      let bytes : here.bytes ≡ y.bytes = one_text b here.bytes y.bytes here.given y.given in
      (y.bytes, subst P bytes here.has, y.has)

  module _ (es : Entries HeldFile) (component : Option (List ℕ)) (kind : ConfigKind) where
    -- what is said of a file is said of one text
    both_have : (file : List ℕ) (P Q : List ℕ → Type 0) → FileHas told es component kind file P → FileHas told es component kind file Q → (bytes : List ℕ) × P bytes × Q bytes
    both_have file P Q x y = same_text x.held y.held P Q (one_config content_size es component kind file x.held y.held x.counts y.counts) x.given y.given

    -- two first bad files are one
    one_bad : (Sound : List ℕ → List ℕ → Type 0) (P Q : List ℕ → Type 0) (f g : List ℕ)
        → ((bytes : List ℕ) → Sound f bytes → ¬ P bytes)
        → ((bytes : List ℕ) → Sound g bytes → ¬ Q bytes)
        → IsFirstBadFile told es component kind Sound P f
        → IsFirstBadFile told es component kind Sound Q g
        → f ≡ g
    one_bad Sound P Q f g apart_P apart_Q x y =
        elim (which_first f g) [
          | inl less ↦ (let both = same_text x.bad.held x.bad.held (Sound f) P refl (y.before f x.bad.held x.bad.counts less) x.bad.given in absurd (apart_P both.0 both.1 both.2))
          | inr rest ↦ elim rest [
            | inl same ↦ same
            | inr more ↦ (let both = same_text y.bad.held y.bad.held (Sound g) Q refl (x.before g y.bad.held y.bad.counts more) y.bad.given in absurd (apart_Q both.0 both.1 both.2))
          ]
        ]

    module _ {X : Type 0} (name file_of : X → List ℕ) (Says : X → List ℕ → Type 0) where
      -- no file is bad where each says something
      none_bad : (Sound : List ℕ → List ℕ → Type 0) (P : List ℕ → Type 0) (file : List ℕ) (xs : List X)
          → ((x : X) (bytes : List ℕ) → file_of x ≡ file → Says x bytes → ¬ P bytes)
          → AreFromFiles told es component kind name file_of Says xs
          → ¬ IsFirstBadFile told es component kind Sound P file
      none_bad Sound P file xs apart from bad =
          let has = from.whole file bad.bad.held bad.bad.counts in
          let both = both_have file (Says has.0) P (subst (λ f. FileHas told es component kind f (Says has.0)) has.2 (from.each has.0 has.1)) bad.bad in
          apart has.0 both.0 has.2 both.1 both.2

      module _ (one : (x y : X) (bytes : List ℕ) → file_of x ≡ file_of y → Says x bytes → Says y bytes → x ≡ y) where
        among_both : (xs ys : List X) → AreFromFiles told es component kind name file_of Says xs → AreFromFiles told es component kind name file_of Says ys → (x : X) → Contains xs x → Contains ys x
        among_both xs ys from other x c =
            let says = from.each x c in
            let has = other.whole (file_of x) says.held says.counts in
            let both = both_have (file_of x) (Says x) (Says has.0) says (subst (λ f. FileHas told es component kind f (Says has.0)) has.2 (other.each has.0 has.1)) in
            subst (λ z. Contains ys z) (sym (one x has.0 both.0 (sym has.2) both.1 both.2)) has.1

        -- what all files say is one list
        one_list : (xs ys : List X) → AreFromFiles told es component kind name file_of Says xs → AreFromFiles told es component kind name file_of Says ys → xs ≡ ys
        one_list xs ys from other = one_in_order name xs ys from.sorted other.sorted (among_both xs ys from other) (among_both ys xs other from)

  module _ (es : Entries HeldFile) (component : Option (List ℕ)) where
    one_feature : (x y : Feature) (bytes : List ℕ) → feature_file x.name ≡ feature_file y.name → SaysFeature x bytes → SaysFeature y bytes → x ≡ y
    one_feature x y bytes file is also =
        let name : x.name ≡ y.name = one_feature_name x.name y.name file in
        let on : x.on ≡ y.on = cc in
        (λ i. record { name = name i; on = on i })

    -- a component has one list of features
    one_feature_list : (xs ys : List Feature) → AreFeaturesOf told es component xs → AreFeaturesOf told es component ys → xs ≡ ys
    one_feature_list = one_list es component kinds.Feature (λ f. f.name) (λ f. feature_file f.name) SaysFeature one_feature

    features_or_bad : (xs : List Feature) (file : List ℕ) (line : ℕ) (why : FeatureFault) → AreFeaturesOf told es component xs → ¬ IsFirstBadFeature told es component file line why
    features_or_bad xs file line why =
        none_bad es component kinds.Feature (λ f. f.name) (λ f. feature_file f.name) SaysFeature (λ _. IsSoundFeature) (λ bytes. feature_of bytes ≡ Err (unread_feature.BadFeature line why)) file xs (λ x bytes same says bad. cc)

    -- or one first bad file, with one fault
    one_bad_feature : (f g : List ℕ) (line other : ℕ) (why because : FeatureFault) → IsFirstBadFeature told es component f line why → IsFirstBadFeature told es component g other because → (f ≡ g) × (line ≡ other) × (why ≡ because)
    one_bad_feature f g line other why because x y =
        let P : List ℕ → Type 0 = λ bytes. feature_of bytes ≡ Err (unread_feature.BadFeature line why) in
        let Q : List ℕ → Type 0 = λ bytes. feature_of bytes ≡ Err (unread_feature.BadFeature other because) in
        let file : f ≡ g = one_bad es component kinds.Feature (λ _. IsSoundFeature) P Q f g (λ bytes sound bad. let is = sound.1 in cc) (λ bytes sound bad. let is = sound.1 in cc) x y in
        let both = both_have es component kinds.Feature g P Q (subst (λ n. FileHas told es component kinds.Feature n P) file x.bad) y.bad in
        let first = both.1 in
        let second = both.2 in
        (file, cc, cc)

    one_transfer : (arch : Arch) (host : ReleaseOfHost) (x y : Transfer) (bytes : List ℕ) → x.file ≡ y.file → SaysTransfer arch host x bytes → SaysTransfer arch host y bytes → x ≡ y
    one_transfer arch host x y bytes file is also =
        let same : Ok x ≡ Ok y = sym is ∙ ap (λ f. transfer_of f bytes host arch) file ∙ also in
        cc

    module _ (arch : Arch) (host : ReleaseOfHost) where
      -- a component has one list of transfers
      one_transfer_list : (xs ys : List Transfer) → AreTransfersOf told es arch host component xs → AreTransfersOf told es arch host component ys → xs ≡ ys
      one_transfer_list = one_list es component kinds.Transfer (λ t. t.file) (λ t. t.file) (SaysTransfer arch host) (one_transfer arch host)

      transfers_or_bad : (xs : List Transfer) (file : List ℕ) (line : ℕ) (why : TransferFault) → AreTransfersOf told es arch host component xs → ¬ IsFirstBadTransfer told es arch host component file line why
      transfers_or_bad xs file line why =
          none_bad es component kinds.Transfer (λ t. t.file) (λ t. t.file) (SaysTransfer arch host) (IsSoundTransfer arch host) (λ bytes. transfer_of file bytes host arch ≡ Err (unread_transfer.BadTransfer line why)) file xs
          (λ x bytes same says bad. let here = ap (λ f. transfer_of f bytes host arch) (sym same) ∙ says in cc)

      -- or one first bad file, with one fault
      one_bad_transfer : (f g : List ℕ) (line other : ℕ) (why because : TransferFault) → IsFirstBadTransfer told es arch host component f line why → IsFirstBadTransfer told es arch host component g other because → (f ≡ g) × (line ≡ other) × (why ≡ because)
      one_bad_transfer f g line other why because x y =
          let P : List ℕ → List ℕ → Type 0 = λ n bytes. transfer_of n bytes host arch ≡ Err (unread_transfer.BadTransfer line why) in
          let Q : List ℕ → Type 0 = λ bytes. transfer_of g bytes host arch ≡ Err (unread_transfer.BadTransfer other because) in
          let file : f ≡ g = one_bad es component kinds.Transfer (IsSoundTransfer arch host) (P f) Q f g (λ bytes sound bad. let is = sound.1 in cc) (λ bytes sound bad. let is = sound.1 in cc) x y in
          let both = both_have es component kinds.Transfer g (P g) Q (subst (λ n. FileHas told es component kinds.Transfer n (P n)) file x.bad) y.bad in
          let first = both.1 in
          let second = both.2 in
          (file, cc, cc)

  module _ (laws : OfReleases) (es : Entries HeldFile) where
    both_releases : (P Q : List ℕ → Type 0) → ReleaseFileHas told es P → ReleaseFileHas told es Q → (bytes : List ℕ) × P bytes × Q bytes
    both_releases P Q x y = same_text x.held y.held P Q (one_release_file es x.held y.held x.is_file y.is_file) x.given y.given

    -- a host has one release, or none
    one_release_of_host : (a b : ReleaseOfHost) → IsReleaseOfHost told es a → IsReleaseOfHost told es b → a ≡ b
    one_release_of_host None None x y = refl
    one_release_of_host None (Some b) x y = absurd (no_release_file es y.held x y.is_file)
    one_release_of_host (Some a) None x y = absurd (no_release_file es x.held y x.is_file)
    one_release_of_host (Some a) (Some b) x y =
        let both = both_releases (λ bytes. IsRelease bytes a) (λ bytes. IsRelease bytes b) x y in
        ap Some (laws.one_release both.0 a b both.1 both.2)

    -- or a first fault
    release_or_bad : (a : ReleaseOfHost) (line : ℕ) → IsReleaseOfHost told es a → ¬ ReleaseFileHas told es (λ bytes. IsFirstFault bytes line)
    release_or_bad None line x y = no_release_file es y.held x y.is_file
    release_or_bad (Some a) line x y =
        let both = both_releases (λ bytes. IsRelease bytes a) (λ bytes. IsFirstFault bytes line) x y in
        laws.not_both both.0 a line both.1 both.2

    one_bad_release : (line other : ℕ) → ReleaseFileHas told es (λ bytes. IsFirstFault bytes line) → ReleaseFileHas told es (λ bytes. IsFirstFault bytes other) → line ≡ other
    one_bad_release line other x y =
        let both = both_releases (λ bytes. IsFirstFault bytes line) (λ bytes. IsFirstFault bytes other) x y in
        laws.one_fault both.0 line other both.1 both.2

pub one_features : OneFeatures
one_features told old new other_old other_new es component (Ok xs) (Ok ys) one_text a_text b_text a b = ap Ok (one_feature_list told one_text es component xs ys a b)
one_features told old new other_old other_new es component (Ok xs) (Err features_errors.OutOfMemory) one_text a_text b_text a b = absurd b_text
one_features told old new other_old other_new es component (Ok xs) (Err (features_errors.BadFeature g other because)) one_text a_text b_text a b = absurd (features_or_bad told one_text es component xs g other because a b)
one_features told old new other_old other_new es component (Ok xs) (Err (features_errors.Shelf e)) one_text a_text b_text a b = absurd b_text
one_features told old new other_old other_new es component (Err features_errors.OutOfMemory) y one_text a_text b_text a b = absurd a_text
one_features told old new other_old other_new es component (Err (features_errors.BadFeature f line why)) (Ok ys) one_text a_text b_text a b = absurd (features_or_bad told one_text es component ys f line why b a)
one_features told old new other_old other_new es component (Err (features_errors.BadFeature f line why)) (Err features_errors.OutOfMemory) one_text a_text b_text a b = absurd b_text
one_features told old new other_old other_new es component (Err (features_errors.BadFeature f line why)) (Err (features_errors.BadFeature g other because)) one_text a_text b_text a b =
    let same = one_bad_feature told one_text es component f g line other why because a b in
    (λ i. Err (features_errors.BadFeature (same.0 i) (same.1 i) (same.2 i)))
one_features told old new other_old other_new es component (Err (features_errors.BadFeature f line why)) (Err (features_errors.Shelf e)) one_text a_text b_text a b = absurd b_text
one_features told old new other_old other_new es component (Err (features_errors.Shelf e)) y one_text a_text b_text a b = absurd a_text

abbrev bad_feature : List ℕ → ℕ → FeatureFault → Result (List Transfer) ActiveErr
bad_feature file line why = Err (active_errors.BadFeature file line why)

abbrev bad_transfer : List ℕ → ℕ → TransferFault → Result (List Transfer) ActiveErr
bad_transfer file line why = Err (active_errors.BadTransfer file line why)

-- the answer by the transfers that are on
answer_of : List Transfer → Result (List Transfer) ActiveErr
answer_of [] = Err active_errors.NoneOn
answer_of (t ∷ ts) = Ok (t ∷ ts)

answer_some : (on : List Transfer) → 0 < length on → answer_of on ≡ Ok on
unfolding answer_of
answer_some [] some = absurd (omega arith)
answer_some (t ∷ ts) some = refl

some_before : (p : Transfer → Bool) (ts : List Transfer) → 0 < length (filter p ts) → 0 < length ts
some_before p [] some = some
some_before p (t ∷ ts) some = omega arith

answer_none : answer_of [] ≡ Err active_errors.NoneOn
unfolding answer_of
answer_none = refl

module _ (told : HeldFile → Told) (es : Entries HeldFile) (arch : Arch) (component : Option (List ℕ)) where
  -- an answer after the features and the release are known
  abbrev AfterRelease : List Feature → ReleaseOfHost → Result (List Transfer) ActiveErr → Type 0
  AfterRelease features host a =
      (HasNone es component kinds.Transfer × (a ≡ Err active_errors.NoTransfers))
      ⊎ (((file : List ℕ) × (line : ℕ) × (why : TransferFault) × IsFirstBadTransfer told es arch host component file line why × (a ≡ Err (active_errors.BadTransfer file line why)))
      ⊎ ((transfers : List Transfer) × AreTransfersOf told es arch host component transfers × (0 < length transfers) × (a ≡ answer_of (filter (is_on features) transfers))))

  -- an answer after the features are known
  abbrev AfterFeatures : List Feature → Result (List Transfer) ActiveErr → Type 0
  AfterFeatures features a =
      ((line : ℕ) × ReleaseFileHas told es (λ bytes. IsFirstFault bytes line) × (a ≡ Err (active_errors.BadHostRelease line)))
      ⊎ ((host : ReleaseOfHost) × IsReleaseOfHost told es host × AfterRelease features host a)

  -- an answer, by what is known first
  abbrev InOrder : Result (List Transfer) ActiveErr → Type 0
  InOrder a =
      ((file : List ℕ) × (line : ℕ) × (why : FeatureFault) × IsFirstBadFeature told es component file line why × (a ≡ Err (active_errors.BadFeature file line why)))
      ⊎ ((features : List Feature) × AreFeaturesOf told es component features × AfterFeatures features a)

  -- each answer is one of these
  in_order : (old new : ℕ) (a : Result (List Transfer) ActiveErr) → IsFromText a → ActiveGives told old new es arch component a → InOrder a
  in_order old new (Ok on) text gives =
      let chosen = gives.1 in
      let some : 0 < length gives.0 = some_before (is_on chosen.features) gives.0 (subst (λ ts. 0 < length ts) chosen.are_on gives.2) in
      inr (chosen.features, chosen.basis.are_features, inr (chosen.host, chosen.basis.is_release, inr (inr (gives.0, chosen.are_transfers, some, sym (answer_some on gives.2) ∙ ap answer_of chosen.are_on))))
  in_order old new (Err active_errors.OutOfMemory) text gives = absurd text
  in_order old new (Err (active_errors.BadFeature file line why)) text gives = inl (file, line, why, gives, refl)
  in_order old new (Err (active_errors.BadHostRelease line)) text gives = inr (gives.0, gives.1, inl (line, gives.2, refl))
  in_order old new (Err active_errors.NoTransfers) text gives = inr (gives.0, gives.2.are_features, inr (gives.1, gives.2.is_release, inl (gives.3, refl)))
  in_order old new (Err (active_errors.BadTransfer file line why)) text gives =
      inr (gives.0, gives.2.are_features, inr (gives.1, gives.2.is_release, inr (inl (file, line, why, gives.3, refl))))
  in_order old new (Err active_errors.NoneOn) text gives =
      let chosen = gives.1 in
      inr (chosen.features, chosen.basis.are_features, inr (chosen.host, chosen.basis.is_release, inr (inr (gives.0, chosen.are_transfers, gives.2, sym answer_none ∙ ap answer_of chosen.are_on))))
  in_order old new (Err (active_errors.Shelf e)) text gives = absurd text

  -- where a file counts, transfers that are all there are aren't none
  none_or_some : (host : ReleaseOfHost) (ts : List Transfer) → HasNone es component kinds.Transfer → AreTransfersOf told es arch host component ts → ¬ (0 < length ts)
  none_or_some host [] none are some = omega (arith, some)
  none_or_some host (t ∷ ts) none are some = let says = are.each t (first_in t ts) in none t.file says.held says.counts

  module _ (laws : OfReleases) (one_text : GivesOneText told) (a b : Result (List Transfer) ActiveErr) where
    one_after_release : (features : List Feature) (host : ReleaseOfHost) → AfterRelease features host a → AfterRelease features host b → a ≡ b
    one_after_release features host (inl x) (inl y) = x.1 ∙ sym y.1
    one_after_release features host (inl x) (inr (inl y)) = absurd (x.0 y.0 y.3.bad.held y.3.bad.counts)
    one_after_release features host (inl x) (inr (inr y)) = absurd (none_or_some host y.0 x.0 y.1 y.2)
    one_after_release features host (inr (inl x)) (inl y) = absurd (y.0 x.0 x.3.bad.held x.3.bad.counts)
    one_after_release features host (inr (inl x)) (inr (inl y)) =
        let same = one_bad_transfer told one_text es component arch host x.0 y.0 x.1 y.1 x.2 y.2 x.3 y.3 in
        let errors : bad_transfer x.0 x.1 x.2 ≡ bad_transfer y.0 y.1 y.2 = (λ i. bad_transfer (same.0 i) (same.1 i) (same.2 i)) in
        x.4 ∙ errors ∙ sym y.4
    one_after_release features host (inr (inl x)) (inr (inr y)) = absurd (transfers_or_bad told one_text es component arch host y.0 x.0 x.1 x.2 y.1 x.3)
    one_after_release features host (inr (inr x)) (inl y) = absurd (none_or_some host x.0 y.0 x.1 x.2)
    one_after_release features host (inr (inr x)) (inr (inl y)) = absurd (transfers_or_bad told one_text es component arch host x.0 y.0 y.1 y.2 x.1 y.3)
    one_after_release features host (inr (inr x)) (inr (inr y)) =
        x.3 ∙ ap (λ ts. answer_of (filter (is_on features) ts)) (one_transfer_list told one_text es component arch host x.0 y.0 x.1 y.1) ∙ sym y.3

    one_after_features : (features : List Feature) → AfterFeatures features a → AfterFeatures features b → a ≡ b
    one_after_features features (inl x) (inl y) =
        x.2 ∙ ap (λ line. Err (active_errors.BadHostRelease line)) (one_bad_release told one_text laws es x.0 y.0 x.1 y.1) ∙ sym y.2
    one_after_features features (inl x) (inr y) = absurd (release_or_bad told one_text laws es y.0 x.0 y.1 x.1)
    one_after_features features (inr x) (inl y) = absurd (release_or_bad told one_text laws es x.0 y.0 x.1 y.1)
    one_after_features features (inr x) (inr y) =
        let host : x.0 ≡ y.0 = one_release_of_host told one_text laws es x.0 y.0 x.1 y.1 in
        one_after_release features y.0 (subst (λ h. AfterRelease features h a) host x.2) y.2

    one_answer : InOrder a → InOrder b → a ≡ b
    one_answer (inl x) (inl y) =
        let same = one_bad_feature told one_text es component x.0 y.0 x.1 y.1 x.2 y.2 x.3 y.3 in
        let errors : bad_feature x.0 x.1 x.2 ≡ bad_feature y.0 y.1 y.2 = (λ i. bad_feature (same.0 i) (same.1 i) (same.2 i)) in
        x.4 ∙ errors ∙ sym y.4
    one_answer (inl x) (inr y) = absurd (features_or_bad told one_text es component y.0 x.0 x.1 x.2 y.1 x.3)
    one_answer (inr x) (inl y) = absurd (features_or_bad told one_text es component x.0 y.0 y.1 y.2 x.1 y.3)
    one_answer (inr x) (inr y) =
        let features : x.0 ≡ y.0 = one_feature_list told one_text es component x.0 y.0 x.1 y.1 in
        one_after_features y.0 (subst (λ fs. AfterFeatures fs a) features x.2) y.2

pub one_active : OfReleases → OneActive
one_active laws told old new other_old other_new es arch component a b one_text a_text b_text a_gives b_gives =
    one_answer told es arch component laws one_text a b (in_order told es arch component old new a a_text a_gives) (in_order told es arch component other_old other_new b b_text b_gives)

-- what names no feature is on
on_without_names : (features : List Feature) (t : Transfer) → t.features ≡ [] → t.requisite ≡ [] → is_on features t ≡ true
on_without_names features t none none_required =
    ap (λ names. has_one_on features names && list_all (has_on features) t.requisite) none ∙ ap (list_all (has_on features)) none_required

keeps_all : (p : Transfer → Bool) (ts : List Transfer) → ((t : Transfer) → Contains ts t → p t ≡ true) → filter p ts ≡ ts
keeps_all p [] each = refl
keeps_all p (t ∷ ts) each =
    ap (λ b. cond b (t ∷ filter p ts) (filter p ts)) (each t (first_in t ts)) ∙ ap (λ (rest : List Transfer). t ∷ rest) (keeps_all p ts (λ q c. each q (later_in t ts q c)))

module _ (told : HeldFile → Told) (es : Entries HeldFile) (arch : Arch) (component : Option (List ℕ)) (names : NamesNoFeature told es arch component) where
  all_on : (features : List Feature) (host : ReleaseOfHost) (ts : List Transfer) → IsReleaseOfHost told es host → AreTransfersOf told es arch host component ts → filter (is_on features) ts ≡ ts
  all_on features host ts release are = keeps_all (is_on features) ts (λ t c.
      let none = names host t release (are.each t c) in
      on_without_names features t none.0 none.1)

pub all_are_on : AllAreOn
all_are_on told old new es arch component on names gives =
    let chosen = gives.1 in
    let same : on ≡ gives.0 = chosen.are_on ∙ all_on told es arch component names chosen.features chosen.host gives.0 chosen.basis.is_release chosen.are_transfers in
    (chosen.host, chosen.basis.is_release, subst (AreTransfersOf told es arch chosen.host component) (sym same) chosen.are_transfers)

pub some_are_on : SomeAreOn
some_are_on told old new es arch component names gives =
    let chosen = gives.1 in
    let same : [] ≡ gives.0 = chosen.are_on ∙ all_on told es arch component names chosen.features chosen.host gives.0 chosen.basis.is_release chosen.are_transfers in
    omega (arith, subst (λ ts. 0 < length ts) (sym same) gives.2)
