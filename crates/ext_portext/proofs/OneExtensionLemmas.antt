-- There is one reading of each extension, and one that doesn't fit first.
use Rattle.std.proofs.Common.{◌≡◌, ℕ, ◌+◌, true, false, Bool, List, [], ◌∷◌, ◌++◌, length, Option, Some, None, Err, inl, inr, refl, sym, ap, ◌∙◌, subst, arith}
use Rattle.std.specs.Prelude.{◌⊎◌, Contains, IsTrue}
use Rattle.std.specs.FinMap.{FinMap, find as find_in, is_sorted}
use Rattle.std.specs.Option.{option_map, unwrap_or}
use Rattle.std.proofs.lemmas.Bool.{true≢false}
use Rattle.std.proofs.lemmas.Option.{none-some, same_Some, slice_get-map, slice_get_read}
use Rattle.ext_lines.specs.ByteOrder.{bytes_cmp}
use Rattle.ext_attributes.specs.Attributes.{OfFile}
use Rattle.ext_text.specs.declared.class.Class.TheVariants as classes
use Rattle.ext_text.specs.declared.extension.Extension.TheVariants.{Sysext}
use Rattle.ext_text.specs.declared.scope.Scope.TheVariants as scopes
use Rattle.ext_tree.specs.Part.{part}
use Rattle.ext_tree.specs.Tree.{Entries, lookup}
use Rattle.ext_tree.specs.declared.entry.Entry.{Entry}
use Rattle.ext_tree.specs.declared.entry.Entry.TheVariants.{File}
use Rattle.ext_tree.proofs.ForCallers.{find_there}
use Rattle.ext_vers.specs.Order.{orders_total}
use Rattle.ext_vers.specs.Version.{order_of}
use Rattle.ext_walk.specs.Walk.{parts}
use Rattle.ext_walk.proofs.ForCallers.{same_end}
use Rattle.ext_host.specs.Held.{HeldFile}
use Rattle.ext_host.specs.Planning.{content_size}
use Rattle.ext_host.specs.Shelf.{Told}
use Rattle.ext_host.specs.declared.host.Host.{Host}
use Rattle.ext_release.specs.Laws.{NoFaultInRelease, OneFault, OneRelease}
use Rattle.ext_match.specs.Verdict.{IsVerdict, OneVerdict}
use Rattle.ext_match.specs.declared.verdict.Verdict.{Verdict}
use Rattle.ext_match.specs.declared.verdict.Verdict.TheVariants as verdicts
use Rattle.ext_find.specs.ExtensionRelease.{release_text}
use Rattle.ext_find.specs.Found.{by_name}
use Rattle.ext_find.specs.HostRelease.{IsGiven, LeadsToContent}
use Rattle.ext_find.specs.Image.{Breaks}
use Rattle.ext_find.specs.Laws.{OneFound}
use Rattle.ext_find.specs.declared.found.BreakWhy.{BreakWhy}
use Rattle.ext_find.specs.declared.found.BreakWhy.TheVariants.{NotDirectory, HasOsRelease, NoRelease}
use Rattle.ext_find.specs.declared.found.FoundItem.{FoundItem}
use Rattle.ext_units.specs.Body.{IsTreeOf}
use Rattle.ext_units.specs.ImageName.{image_name, last_name}
use Rattle.ext_units.specs.Laws.{GivesOneText}
use Rattle.ext_units.specs.declared.image.Image.{Image}
use Rattle.ext_units.specs.declared.image.Image.TheVariants.{Named, At}
use Rattle.ext_port.specs.declared.errors.PortErr.TheVariants as port_errors
use Rattle.ext_portext.specs.Extension.{FindsExtension, IsExtensionAt, IsExtensionPath, IsNoExtension, kind_of_break, system_hierarchies}
use Rattle.ext_portext.specs.Extensions.{AreExtending, ExtensionFails, FirstFails, IsExtending}
use Rattle.ext_portext.specs.Judged.{FitsAs, FitsBy, FitsByFile, GivesVerdict}
use Rattle.ext_portext.specs.Laws.{IsOfExtended}
use Rattle.ext_portext.specs.declared.errors.ExtWhy.{ExtWhy}
use Rattle.ext_portext.specs.declared.errors.ExtWhy.TheVariants as whys
use Rattle.ext_portext.specs.declared.errors.PortExtErr.{PortExtErr}
use Rattle.ext_portext.specs.declared.errors.PortExtErr.TheVariants as errors
use Rattle.ext_portext.specs.declared.extending.Extending.{Extending}

-- the laws of what an extension rests on
pub record Below : Type 0 where
  pub one_found : OneFound content_size
  pub one_release : OneRelease
  pub not_both : NoFaultInRelease
  pub one_fault : OneFault
  pub one_verdict : OneVerdict

-- where it is

clash : {b : Bool} {A : Type 0} → b ≡ true → b ≡ false → A
clash on off = absurd (true≢false (sym on ∙ off))

-- an image is broken for one reason, or for none
break_once : (image : Entries HeldFile) (hierarchies : List (List ℕ)) (name : List ℕ) (x y : Option BreakWhy) → Breaks image classes.Sysext hierarchies name x → Breaks image classes.Sysext hierarchies name y → x ≡ y
break_once image hierarchies name (Some NotDirectory) (Some NotDirectory) a b = refl
break_once image hierarchies name (Some NotDirectory) (Some HasOsRelease) a b = clash a b.0
break_once image hierarchies name (Some NotDirectory) (Some NoRelease) a b = clash a b.0
break_once image hierarchies name (Some NotDirectory) None a b = clash a b.0
break_once image hierarchies name (Some HasOsRelease) (Some NotDirectory) a b = clash b a.0
break_once image hierarchies name (Some HasOsRelease) (Some HasOsRelease) a b = refl
break_once image hierarchies name (Some HasOsRelease) (Some NoRelease) a b = clash a.1 b.1
break_once image hierarchies name (Some HasOsRelease) None a b = clash a.1 b.1
break_once image hierarchies name (Some NoRelease) (Some NotDirectory) a b = clash b a.0
break_once image hierarchies name (Some NoRelease) (Some HasOsRelease) a b = clash b.1 a.1
break_once image hierarchies name (Some NoRelease) (Some NoRelease) a b = refl
break_once image hierarchies name (Some NoRelease) None a b = absurd (a.2 b.2)
break_once image hierarchies name None (Some NotDirectory) a b = clash b a.0
break_once image hierarchies name None (Some HasOsRelease) a b = clash b.1 a.1
break_once image hierarchies name None (Some NoRelease) a b = absurd (b.2 a.2)
break_once image hierarchies name None None a b = refl

kind_once : (x y : Option BreakWhy) → kind_of_break x ≡ kind_of_break y → x ≡ y
kind_once None None same = refl
kind_once None (Some why) same = cc same
kind_once (Some why) None same = cc same
kind_once (Some why) (Some other) same = cc same

module _ (host : Host) (base : Entries HeldFile) where
  item_by_name : (items : List FoundItem) (item : FoundItem) → IsTrue (is_sorted order_of (by_name items)) → Contains items item → find_in order_of item.name (by_name items) ≡ Some item
  item_by_name items item ordered among =
      find_there order_of orders_total (by_name items) among.0 (item.name, item) ordered
      (slice_get-map (λ (i : FoundItem). (i.name, i)) items among.0
      ∙ ap (option_map (λ (i : FoundItem). (i.name, i))) (slice_get_read items (length items) among.0 item refl among.1 (sym among.2)))

  -- a search finds one extension of a name
  finds_once : OneFound content_size → (name : List ℕ) (p q : List (List ℕ)) (why other : Option BreakWhy) → FindsExtension host base name p why → FindsExtension host base name q other → (p ≡ q) × (why ≡ other)
  finds_once one name p q why other x y =
      let items : x.items ≡ y.items = one base classes.Sysext host.arch (system_hierarchies host) x.items y.items x.found y.found in
      let first = item_by_name y.items x.item y.found.ordered (subst (λ xs. Contains xs x.item) items x.among) in
      let second = item_by_name y.items y.item y.found.ordered y.among in
      let names : x.item.name ≡ y.item.name = x.name_is ∙ sym y.name_is in
      let same : x.item ≡ y.item = ap (λ o. unwrap_or o x.item) (sym first ∙ ap (λ n. find_in order_of n (by_name y.items)) names ∙ second) in (
        sym x.place_is ∙ ap (λ (i : FoundItem). i.place) same ∙ y.place_is,
        kind_once why other (sym x.kind_is ∙ ap (λ (i : FoundItem). i.kind) same ∙ y.kind_is),
      )

  -- a path is one, and broken for one reason
  path_once : (path : List (List ℕ)) (why other : Option BreakWhy) → IsExtensionPath host base path why → IsExtensionPath host base path other → why ≡ other
  path_once path why other x y =
      let same : x.directory ≡ y.directory = same_end base path x.directory y.directory x.leads y.leads in
      break_once (part y.directory base) (system_hierarchies host) (last_name path) why other
      (subst (λ d. Breaks (part d base) classes.Sysext (system_hierarchies host) (last_name path) why) same x.breaks) y.breaks

  place_once : OneFound content_size → (image : Image) (p q : List (List ℕ)) (why other : Option BreakWhy) → IsExtensionAt host base image p why → IsExtensionAt host base image q other → (p ≡ q) × (why ≡ other)
  place_once one (Named name) p q why other x y = finds_once one name p q why other x y
  place_once one (At path) p q why other x y = (x.0 ∙ sym y.0, path_once path why other x.1 y.1)

tree_once : (base : Entries HeldFile) (place : List (List ℕ)) (t u : Entries HeldFile) → IsTreeOf base place t → IsTreeOf base place u → t ≡ u
tree_once base place t u x y = x.below ∙ ap (λ d. part d base) (same_end base place x.directory y.directory x.leads y.leads) ∙ sym y.below

-- what its release file says

same_file : (m n : OfFile) (a b : HeldFile) → ◌≡◌ {A = Option (Entry HeldFile)} (Some (File m a)) (Some (File n b)) → a ≡ b
same_file m n a b same = cc

content_once : (es : Entries HeldFile) (names : List (List ℕ)) (a b : HeldFile) → LeadsToContent es names a → LeadsToContent es names b → a ≡ b
content_once es names a b x y = same_file x.1 y.1 a b (sym x.3 ∙ ap (lookup es) (same_end es names x.0 y.0 x.2 y.2) ∙ y.3)

module _ (below : Below) (told : HeldFile → Told) (gives : GivesOneText told) (host : Host) (base : Entries HeldFile) (release : FinMap bytes_cmp (List ℕ)) where
  verdict_once : (bytes : List ℕ) (v w : Verdict) → GivesVerdict release host.arch bytes v → GivesVerdict release host.arch bytes w → v ≡ w
  verdict_once bytes v w x y =
      let own : x.own ≡ y.own = below.one_release bytes x.own y.own x.reads y.reads in
      below.one_verdict release y.own Sysext scopes.Portable host.arch false v w
      (subst (λ o. IsVerdict release o Sysext scopes.Portable host.arch false v) own x.is_verdict) y.is_verdict

  by_once : (bytes : List ℕ) (a b : Option ExtWhy) → FitsBy release host.arch bytes a → FitsBy release host.arch bytes b → a ≡ b
  by_once bytes None None x y = refl
  by_once bytes None (Some (whys.Broken why)) x y = absurd y
  by_once bytes None (Some (whys.BadRelease line)) x y = absurd (below.not_both bytes x.own line x.reads y)
  by_once bytes None (Some (whys.Verdict v)) x y = absurd (y.1 (verdict_once bytes v verdicts.Fits y.0 x))
  by_once bytes (Some (whys.Broken why)) b x y = absurd x
  by_once bytes (Some (whys.BadRelease line)) None x y = absurd (below.not_both bytes y.own line y.reads x)
  by_once bytes (Some (whys.BadRelease line)) (Some (whys.Broken why)) x y = absurd y
  by_once bytes (Some (whys.BadRelease line)) (Some (whys.BadRelease other)) x y = ap (λ (l : ℕ). Some (whys.BadRelease l)) (below.one_fault bytes line other x y)
  by_once bytes (Some (whys.BadRelease line)) (Some (whys.Verdict v)) x y = absurd (below.not_both bytes y.0.own line y.0.reads x)
  by_once bytes (Some (whys.Verdict v)) None x y = absurd (x.1 (verdict_once bytes v verdicts.Fits x.0 y))
  by_once bytes (Some (whys.Verdict v)) (Some (whys.Broken why)) x y = absurd y
  by_once bytes (Some (whys.Verdict v)) (Some (whys.BadRelease line)) x y = absurd (below.not_both bytes x.0.own line x.0.reads y)
  by_once bytes (Some (whys.Verdict v)) (Some (whys.Verdict w)) x y = ap (λ (u : Verdict). Some (whys.Verdict u)) (verdict_once bytes v w x.0 y.0)

  file_once : (tree : Entries HeldFile) (name : List ℕ) (a b : Option ExtWhy) → FitsByFile release host.arch told tree name a → FitsByFile release host.arch told tree name b → a ≡ b
  file_once tree name a b x y =
      let held : x.held ≡ y.held = content_once tree (parts (release_text Sysext name)) x.held y.held x.is_file y.is_file in
      let bytes : x.bytes ≡ y.bytes = gives y.held x.bytes y.bytes (subst (λ h. IsGiven (told h) h x.bytes) held x.given) y.given in
      by_once y.bytes a b (subst (λ bs. FitsBy release host.arch bs a) bytes x.fits) y.fits

  fits_once : (tree : Entries HeldFile) (name : List ℕ) (broken : Option BreakWhy) (a b : Option ExtWhy) → FitsAs release host.arch told tree name broken a → FitsAs release host.arch told tree name broken b → a ≡ b
  fits_once tree name None a b x y = file_once tree name a b x y
  fits_once tree name (Some why) a b x y = x ∙ sym y

  -- an extension is one, and fits or doesn't fit for one reason
  extending_once : (image : Image) (a b : Extending) (why other : Option ExtWhy) → IsExtending told host base release image a why → IsExtending told host base release image b other → (a ≡ b) × (why ≡ other)
  extending_once image a b why other x y =
      let at = place_once host base below.one_found image a.place b.place x.broken y.broken x.at_place y.at_place in
      let tree : a.tree ≡ b.tree = tree_once base b.place a.tree b.tree (subst (λ p. IsTreeOf base p a.tree) at.0 x.is_tree) y.is_tree in
      let fits = subst (λ es. FitsAs release host.arch told es (image_name image) y.broken why) tree (subst (λ o. FitsAs release host.arch told a.tree (image_name image) o why) at.1 x.fits) in (
        (λ i. record { place = at.0 i; tree = tree i }),
        fits_once b.tree (image_name image) y.broken why other fits y.fits,
      )

  pub all_once : (images : List Image) (a b : List Extending) → AreExtending told host base release images a → AreExtending told host base release images b → a ≡ b
  all_once [] [] [] x y = refl
  all_once [] [] (e ∷ b) x y = absurd y
  all_once [] (e ∷ a) b x y = absurd x
  all_once (image ∷ images) [] b x y = absurd x
  all_once (image ∷ images) (e ∷ a) [] x y = absurd y
  all_once (image ∷ images) (e ∷ a) (f ∷ b) x y =
      let one = extending_once image e f None None x.0 y.0 in
      let rest = all_once images a b x.1 y.1 in
      λ i. one.0 i ∷ rest i

  -- the first that doesn't fit

  -- it is not there, or does not fit
  abbrev Failing : ℕ → Image → PortExtErr → Type 0
  Failing at image e =
      ((e ≡ errors.NoExtension at) × IsNoExtension host base image)
      ⊎ ((why : ExtWhy) × (extending : Extending) × (e ≡ errors.Extension at why) × IsExtending told host base release image extending (Some why))

  failing : (old new : ℕ) (at : ℕ) (image : Image) (e : PortExtErr) → IsOfExtended (Err e) → ExtensionFails told host base release old new at image e → Failing at image e
  failing old new at image errors.OutOfMemory known fails = absurd fails
  failing old new at image (errors.Port port_errors.OutOfMemory) known fails = absurd fails
  failing old new at image (errors.Port port_errors.NoSuchImage) known fails = absurd fails
  failing old new at image (errors.Port port_errors.AlreadyAttached) known fails = absurd fails
  failing old new at image (errors.Port port_errors.NotAttached) known fails = absurd fails
  failing old new at image (errors.Port port_errors.NotPortable) known fails = absurd fails
  failing old new at image (errors.Port (port_errors.BadRelease line)) known fails = absurd fails
  failing old new at image (errors.Port (port_errors.PrefixForbidden prefix)) known fails = absurd fails
  failing old new at image (errors.Port port_errors.NoUnits) known fails = absurd fails
  failing old new at image (errors.Port port_errors.NoProfile) known fails = absurd fails
  failing old new at image (errors.Port (port_errors.ReadOnly path)) known fails = absurd fails
  failing old new at image (errors.Port (port_errors.UnitExists path)) known fails = absurd fails
  failing old new at image (errors.Port (port_errors.NotDirectory path)) known fails = absurd fails
  failing old new at image (errors.Port (port_errors.Limit which)) known fails = absurd fails
  failing old new at image (errors.Port (port_errors.Shelf e)) known fails = absurd known
  failing old new at image (errors.NoExtension index) known fails = inl (ap errors.NoExtension fails.0, fails.1)
  failing old new at image (errors.Extension index why) known fails = inr (why, fails.1.0, ap (λ (n : ℕ). errors.Extension n why) fails.0, fails.1.1)
  failing old new at image (errors.Limit which) known fails = absurd fails

  failing_fits : {A : Type 0} (at : ℕ) (image : Image) (e : PortExtErr) (extending : Extending) → Failing at image e → IsExtending told host base release image extending None → A
  failing_fits at image e extending (inl (is, none)) fits = absurd (none extending.place fits.broken fits.at_place)
  failing_fits at image e extending (inr (why, other, is, unfit)) fits = absurd (none-some why (extending_once image extending other None (Some why) fits unfit).1)

  failing_once : (at : ℕ) (image : Image) (e f : PortExtErr) → Failing at image e → Failing at image f → e ≡ f
  failing_once at image e f (inl (is, none)) (inl (same, also)) = is ∙ sym same
  failing_once at image e f (inl (is, none)) (inr (why, extending, same, unfit)) = absurd (none extending.place unfit.broken unfit.at_place)
  failing_once at image e f (inr (why, extending, is, unfit)) (inl (same, none)) = absurd (none extending.place unfit.broken unfit.at_place)
  failing_once at image e f (inr (why, extending, is, unfit)) (inr (other, also, same, too)) =
      is ∙ ap (λ (w : ExtWhy). errors.Extension at w) (same_Some why other (extending_once image extending also (Some why) (Some other) unfit too).1) ∙ sym same

  -- what is wrong with the first that doesn't fit, of images from this place in the list on
  abbrev FailsFrom : PortExtErr → ℕ → List Image → Type 0
  FailsFrom e at [] = ⊥
  FailsFrom e at (image ∷ images) = Failing at image e ⊎ ((extending : Extending) × IsExtending told host base release image extending None × FailsFrom e (at + 1) images)

  fails_from : (e : PortExtErr) (at : ℕ) (before : List Image) (image : Image) (after : List Image) (fitting : List Extending) → AreExtending told host base release before fitting → Failing (at + length before) image e → FailsFrom e at (before ++ image ∷ after)
  fails_from e at [] image after [] fit fails = inl (subst (λ n. Failing n image e) (omega arith) fails)
  fails_from e at [] image after (x ∷ fitting) fit fails = absurd fit
  fails_from e at (i ∷ before) image after [] fit fails = absurd fit
  fails_from e at (i ∷ before) image after (x ∷ fitting) fit fails =
      inr (x, fit.0, fails_from e (at + 1) before image after fitting fit.1 (subst (λ n. Failing n image e) (omega arith) fails))

  first_from : (old new : ℕ) (images : List Image) (e : PortExtErr) → IsOfExtended (Err e) → FirstFails told host base release old new images e → FailsFrom e 0 images
  first_from old new images e known first =
      subst (FailsFrom e 0) (sym first.among)
      (fails_from e 0 first.before first.image first.after first.fitting first.fit
      (subst (λ n. Failing n first.image e) (omega arith) (failing old new (length first.before) first.image e known first.fails)))

  from_once : (e f : PortExtErr) (at : ℕ) (images : List Image) → FailsFrom e at images → FailsFrom f at images → e ≡ f
  from_once e f at [] x y = absurd x
  from_once e f at (image ∷ images) (inl x) (inl y) = failing_once at image e f x y
  from_once e f at (image ∷ images) (inl x) (inr (extending, fits, y)) = failing_fits at image e extending x fits
  from_once e f at (image ∷ images) (inr (extending, fits, x)) (inl y) = failing_fits at image f extending y fits
  from_once e f at (image ∷ images) (inr (extending, fits, x)) (inr (other, also, y)) = from_once e f (at + 1) images x y

  from_fit : {A : Type 0} (e : PortExtErr) (at : ℕ) (images : List Image) (all : List Extending) → FailsFrom e at images → AreExtending told host base release images all → A
  from_fit e at [] all x fit = absurd x
  from_fit e at (image ∷ images) [] x fit = absurd fit
  from_fit e at (image ∷ images) (extending ∷ all) (inl x) fit = failing_fits at image e extending x fit.0
  from_fit e at (image ∷ images) (extending ∷ all) (inr (other, fits, x)) fit = from_fit e (at + 1) images all x fit.1

  -- there is one, and it comes with one error
  pub first_once : (old new other_old other_new : ℕ) (images : List Image) (e f : PortExtErr) → IsOfExtended (Err e) → IsOfExtended (Err f) → FirstFails told host base release old new images e → FirstFails told host base release other_old other_new images f → e ≡ f
  first_once old new other_old other_new images e f known also_known x y = from_once e f 0 images (first_from old new images e known x) (first_from other_old other_new images f also_known y)

  -- and none where all fit
  pub first_fits : {A : Type 0} (old new : ℕ) (images : List Image) (all : List Extending) (e : PortExtErr) → IsOfExtended (Err e) → FirstFails told host base release old new images e → AreExtending told host base release images all → A
  first_fits old new images all e known first fit = from_fit e 0 images all (first_from old new images e known first) fit
