-- What attaching with extensions wants, by cases on what is answered.
use Rattle.std.proofs.Common.{◌≡◌, ℕ, ◌≤◌, Bool, List, [], ◌∷◌, length, Option, Some, None, Ok, Err, inl, inr, refl, sym, ap, subst}
use Rattle.std.specs.Prelude.{Result}
use Rattle.std.specs.FinMap.{FinMap}
use Rattle.std.specs.List.{AllByRecursion}
use Rattle.ext_lines.specs.ByteOrder.{bytes_cmp}
use Rattle.ext_tree.specs.Tree.{Entries, most_entries}
use Rattle.ext_host.specs.Held.{HeldFile}
use Rattle.ext_host.specs.Planning.{IsBaseTree}
use Rattle.ext_host.specs.Shelf.{Told}
use Rattle.ext_host.specs.declared.host.Host.{Host}
use Rattle.ext_units.specs.Body.{IsTreeOf, ReadsBody, ReadsImage}
use Rattle.ext_units.specs.Image.{IsImageAt}
use Rattle.ext_units.specs.declared.body.Body.{Body}
use Rattle.ext_units.specs.declared.errors.BodyErr.{BodyErr}
use Rattle.ext_units.specs.declared.errors.BodyErr.TheVariants as body_errors
use Rattle.ext_units.specs.declared.image.Image.{Image}
use Rattle.ext_added.specs.declared.ask.Ask.{Ask}
use Rattle.ext_port.specs.Errors.{port_err_of_body}
use Rattle.ext_port.specs.Given.{AreFilesOf, IsBodyFor}
use Rattle.ext_port.specs.Starting.{cut_of, start_host, unfit}
use Rattle.ext_port.specs.Wants.{AttachesBody, BarMemory, BodyWants, FitWants, UnitsWant}
use Rattle.ext_port.specs.declared.attaching.Attach.{Attach}
use Rattle.ext_port.specs.declared.errors.PortErr.{PortErr}
use Rattle.ext_port.specs.declared.errors.PortErr.TheVariants as port_errors
use Rattle.ext_port.proofs.ForCallers.{no_refusal, one_base, tree_files}
use Rattle.ext_portext.specs.Errors.{portext_err_of_port}
use Rattle.ext_portext.specs.Extension.{system_hierarchies}
use Rattle.ext_portext.specs.Extensions.{AreExtending}
use Rattle.ext_portext.specs.Laws.{WithoutExtensionsIsAttach}
use Rattle.ext_portext.specs.Lines.{extension_lines}
use Rattle.ext_portext.specs.Steps.{GivesUnitTree, ReadsExtensions}
use Rattle.ext_portext.specs.UnitTree.{IsUnitTree}
use Rattle.ext_portext.specs.Wants.{AttachesExtended, ExtensionsWant, FittingExtensionsWant, UnlessMemory, as_extended}
use Rattle.ext_portext.specs.declared.errors.PortExtErr.{PortExtErr}
use Rattle.ext_portext.specs.declared.errors.PortExtErr.TheVariants as errors
use Rattle.ext_portext.specs.declared.extending.Extending.{Extending}
use Rattle.ext_portext.proofs.FailLemmas.{first_before}

-- what is wanted is wanted but for a lack of memory
pub unless_from : (P : Result Attach PortExtErr → Type 0) (r : Result Attach PortExtErr) → P r → UnlessMemory P r
unless_from P (Ok attach) is = is
unless_from P (Err errors.OutOfMemory) is = tt
unless_from P (Err (errors.Port e)) is = is
unless_from P (Err (errors.NoExtension at)) is = is
unless_from P (Err (errors.Extension at why)) is = is
unless_from P (Err (errors.Limit which)) is = is

-- what follows from it is wanted too
pub unless_more : (P Q : Result Attach PortExtErr → Type 0) → ((r : Result Attach PortExtErr) → P r → Q r) → (r : Result Attach PortExtErr) → UnlessMemory P r → UnlessMemory Q r
unless_more P Q more (Ok attach) is = more (Ok attach) is
unless_more P Q more (Err errors.OutOfMemory) is = tt
unless_more P Q more (Err (errors.Port e)) is = more (Err (errors.Port e)) is
unless_more P Q more (Err (errors.NoExtension at)) is = more (Err (errors.NoExtension at)) is
unless_more P Q more (Err (errors.Extension at why)) is = more (Err (errors.Extension at why)) is
unless_more P Q more (Err (errors.Limit which)) is = more (Err (errors.Limit which)) is

module _ (again : Bool) (host : Host) (ask : Ask) (body : Body) (extensions : List Extending) where
  -- with a tree of the units
  module _ (tree : Entries HeldFile) (is : IsUnitTree (system_hierarchies host) body.tree extensions tree) (few : length tree ≤ most_entries) where
    given_wants : (r : Result Attach PortErr) → AttachesBody again host ask body tree (extension_lines extensions) r → FittingExtensionsWant again host ask body extensions (as_extended r)
    given_wants r wants = (tree, is, inl (few, (r, wants, refl)))

    pub attached_wants : (r : Result Attach PortErr) → BarMemory (AttachesBody again host ask body tree (extension_lines extensions)) r → UnlessMemory (FittingExtensionsWant again host ask body extensions) (as_extended r)
    attached_wants (Ok attach) wants = given_wants (Ok attach) wants
    attached_wants (Err port_errors.OutOfMemory) wants = tt
    attached_wants (Err port_errors.NoSuchImage) wants = given_wants (Err port_errors.NoSuchImage) wants
    attached_wants (Err port_errors.AlreadyAttached) wants = given_wants (Err port_errors.AlreadyAttached) wants
    attached_wants (Err port_errors.NotAttached) wants = given_wants (Err port_errors.NotAttached) wants
    attached_wants (Err port_errors.NotPortable) wants = given_wants (Err port_errors.NotPortable) wants
    attached_wants (Err (port_errors.BadRelease line)) wants = given_wants (Err (port_errors.BadRelease line)) wants
    attached_wants (Err (port_errors.PrefixForbidden prefix)) wants = given_wants (Err (port_errors.PrefixForbidden prefix)) wants
    attached_wants (Err port_errors.NoUnits) wants = given_wants (Err port_errors.NoUnits) wants
    attached_wants (Err port_errors.NoProfile) wants = given_wants (Err port_errors.NoProfile) wants
    attached_wants (Err (port_errors.ReadOnly path)) wants = given_wants (Err (port_errors.ReadOnly path)) wants
    attached_wants (Err (port_errors.UnitExists path)) wants = given_wants (Err (port_errors.UnitExists path)) wants
    attached_wants (Err (port_errors.NotDirectory path)) wants = given_wants (Err (port_errors.NotDirectory path)) wants
    attached_wants (Err (port_errors.Limit which)) wants = given_wants (Err (port_errors.Limit which)) wants
    attached_wants (Err (port_errors.Shelf e)) wants = given_wants (Err (port_errors.Shelf e)) wants

  -- without one
  pub no_tree_wants : (e : PortExtErr) → GivesUnitTree (system_hierarchies host) body.tree extensions (Err e) → UnlessMemory (FittingExtensionsWant again host ask body extensions) (Err e)
  no_tree_wants errors.OutOfMemory gives = tt
  no_tree_wants (errors.Port e) gives = absurd gives
  no_tree_wants (errors.NoExtension at) gives = absurd gives
  no_tree_wants (errors.Extension at why) gives = absurd gives
  no_tree_wants (errors.Limit which) (is, (tree, is_tree, many)) = (tree, is_tree, inr (many, ap (λ w. Err (errors.Limit w)) is))

module _ (told : HeldFile → Told) (old mid new : ℕ) (le : old ≤ mid) (again : Bool) (host : Host) (ask : Ask) (images : List Image) (base : Entries HeldFile) (is_base : IsBaseTree (start_host again ask.image host) base) where
  -- where the image is not read
  module _ (same : mid ≡ new) where
    pub unread_wants : (e : BodyErr) → ReadsImage told old mid base host.arch ask.image (Err e) → UnlessMemory (AttachesExtended told old new again host ask images) (Err (portext_err_of_port (port_err_of_body e)))
    unread_wants body_errors.OutOfMemory reads = tt
    unread_wants body_errors.NoSuchImage reads = (base, is_base, inr (body_errors.NoSuchImage, subst (λ n. ReadsImage told old n base host.arch ask.image (Err body_errors.NoSuchImage)) same reads, refl))
    unread_wants body_errors.NotPortable reads = (base, is_base, inr (body_errors.NotPortable, subst (λ n. ReadsImage told old n base host.arch ask.image (Err body_errors.NotPortable)) same reads, refl))
    unread_wants (body_errors.BadRelease line) reads = (base, is_base, inr ((body_errors.BadRelease line), subst (λ n. ReadsImage told old n base host.arch ask.image (Err (body_errors.BadRelease line))) same reads, refl))
    unread_wants (body_errors.Shelf s) reads = (base, is_base, inr ((body_errors.Shelf s), subst (λ n. ReadsImage told old n base host.arch ask.image (Err (body_errors.Shelf s))) same reads, refl))

  -- where it is read, by what its extensions give
  pub read_wants : (body : Body) → ReadsImage told old new base host.arch ask.image (Ok body) → (r : Result Attach PortExtErr) → UnlessMemory (ExtensionsWant again host ask told mid new base images body) r
      → UnlessMemory (AttachesExtended told old new again host ask images) r
  read_wants body reads =
      unless_more (ExtensionsWant again host ask told mid new base images body) (AttachesExtended told old new again host ask images) (λ r wants. (base, is_base, inl (body, reads, before r wants)))
    where
      before : (r : Result Attach PortExtErr) → ExtensionsWant again host ask told mid new base images body r → ExtensionsWant again host ask told old new base images body r
      before r (inl fit) = inl fit
      before r (inr (e, fails, is)) = inr (e, first_before told (start_host again ask.image host) base body.release old mid new le images e fails, is)

module _ (told : HeldFile → Told) (old new : ℕ) (again : Bool) (host : Host) (ask : Ask) (images : List Image) (base : Entries HeldFile) (body : Body) where
  -- where an extension is not there, or does not fit
  pub unfit_wants : (e : PortExtErr) → ReadsExtensions told (start_host again ask.image host) base body.release old new images (Err e) → UnlessMemory (ExtensionsWant again host ask told old new base images body) (Err e)
  unfit_wants errors.OutOfMemory fails = tt
  unfit_wants (errors.Port e) fails = inr (errors.Port e, fails, refl)
  unfit_wants (errors.NoExtension at) fails = inr (errors.NoExtension at, fails, refl)
  unfit_wants (errors.Extension at why) fails = inr (errors.Extension at why, fails, refl)
  unfit_wants (errors.Limit which) fails = inr (errors.Limit which, fails, refl)

  -- where all fit
  pub fitting_wants : (extensions : List Extending) → AreExtending told (start_host again ask.image host) base body.release images extensions
      → (r : Result Attach PortExtErr) → UnlessMemory (FittingExtensionsWant again host ask body extensions) r → UnlessMemory (ExtensionsWant again host ask told old new base images body) r
  fitting_wants extensions fit =
      unless_more (FittingExtensionsWant again host ask body extensions) (ExtensionsWant again host ask told old new base images body) (λ r wants. inl (extensions, fit, wants))

-- the image that was read is in the host
pub body_for : (told : HeldFile → Told) (old new : ℕ) (host : Host) (base : Entries HeldFile) → IsBaseTree host base → (image : Image) (body : Body) → ReadsImage told old new base host.arch image (Ok body) → IsBodyFor host image body
body_for told old new host base is_base image body reads = record {
  base = base;
  is_base = is_base;
  body_in = record {
    is_image = subst (IsImageAt base host.arch image) (sym reads.2.place_is) reads.1;
    is_tree = subst (λ place. IsTreeOf base place body.tree) (sym reads.2.place_is) reads.2.is_tree;
  };
}

-- the files of extensions are files of the host
pub extending_files : (told : HeldFile → Told) (host : Host) (base : Entries HeldFile) (release : FinMap bytes_cmp (List ℕ)) → IsBaseTree host base → (images : List Image) (extensions : List Extending)
    → AreExtending told host base release images extensions → AllByRecursion (λ (x : Extending). AreFilesOf host x.tree) extensions
extending_files told host base release is_base [] [] are = tt
extending_files told host base release is_base [] (x ∷ extensions) are = absurd are
extending_files told host base release is_base (image ∷ images) [] are = absurd are
extending_files told host base release is_base (image ∷ images) (x ∷ extensions) are =
    (tree_files host base is_base x.place x.tree are.0.is_tree, extending_files told host base release is_base images extensions are.1)

-- without extensions

no_unfit : {A : Type 0} (attach : Attach) (e : PortExtErr) → ◌≡◌ {A = Result Attach PortExtErr} (Ok attach) (Err e) → A
no_unfit attach e same = absurd (subst (λ (r : Result Attach PortExtErr). elim r as (λ _. Type 0) [ Ok v ↦ Unit {0} | Err x ↦ ⊥ ]) same tt)

same_attach : (a b : Attach) → ◌≡◌ {A = Result Attach PortExtErr} (Ok a) (Ok b) → a ≡ b
same_attach a b same = ap (λ (r : Result Attach PortExtErr). elim r as (λ _. Attach) [ Ok v ↦ v | Err x ↦ a ]) same

module _ (told : HeldFile → Told) (old new : ℕ) (again : Bool) (host : Host) (ask : Ask) (attach : Attach) (base : Entries HeldFile) (is_base : IsBaseTree (start_host again ask.image host) base)
    (body : Body) (place : List (List ℕ)) (reads : ReadsBody told old new base place (Ok body)) where
  fit_cases : (tree : Entries HeldFile) → tree ≡ body.tree → (o : Option PortErr)
      → FitWants o (λ r. (b : Entries HeldFile) × IsBaseTree (start_host again ask.image host) b × UnitsWant (start_host again ask.image host) (cut_of again ask.image host) b ask body tree [] r) (Ok attach)
      → FitWants o (BodyWants told old new (start_host again ask.image host) (cut_of again ask.image host) base ask place) (Ok attach)
  fit_cases tree same None (b, is_b, wants) =
      inl (
        body,
        reads,
        subst (λ es. UnitsWant (start_host again ask.image host) (cut_of again ask.image host) es ask body body.tree [] (Ok attach)) (one_base (start_host again ask.image host) b base is_b is_base)
            (subst (λ es. UnitsWant (start_host again ask.image host) (cut_of again ask.image host) b ask body es [] (Ok attach)) same wants),
      )
  fit_cases tree same (Some e) is = no_refusal attach e is

  given_ok : (tree : Entries HeldFile) (given : Result Attach PortErr) → AttachesBody again host ask body tree [] given → ◌≡◌ {A = Result Attach PortExtErr} (Ok attach) (as_extended given) → AttachesBody again host ask body tree [] (Ok attach)
  given_ok tree (Ok a) wants is = subst (λ x. AttachesBody again host ask body tree [] (Ok x)) (sym (same_attach attach a is)) wants
  given_ok tree (Err e) wants is = no_unfit attach (portext_err_of_port e) is

  no_extension_wants : (extensions : List Extending) → AreExtending told (start_host again ask.image host) base body.release [] extensions → FittingExtensionsWant again host ask body extensions (Ok attach)
      → FitWants (unfit again host ask.image) (BodyWants told old new (start_host again ask.image host) (cut_of again ask.image host) base ask place) (Ok attach)
  no_extension_wants [] fit (tree, is, inl (few, (given, wants, same))) = fit_cases tree is (unfit again host ask.image) (given_ok tree given wants same)
  no_extension_wants [] fit (tree, is, inr (many, same)) = no_unfit attach _ same
  no_extension_wants (x ∷ extensions) fit wants = absurd fit

pub without_law : WithoutExtensionsIsAttach
without_law told old new again host ask attach (base, is_base, inl (body, (place, at, reads), inl (extensions, fit, wants))) =
    (base, is_base, inl (place, at, no_extension_wants told old new again host ask attach base is_base body place reads extensions fit wants))
without_law told old new again host ask attach (base, is_base, inl (body, (place, at, reads), inr (e, fails, same))) = no_unfit attach e same
without_law told old new again host ask attach (base, is_base, inr (e, reads, same)) = no_unfit attach _ same
