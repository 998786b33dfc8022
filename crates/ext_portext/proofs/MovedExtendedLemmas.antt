-- What comes of attaching with extensions rests on what is told of the files of the host, and the faults that are counted matter for
-- errors of the shelf alone. Where it tells one, the shelf did not give the release file of the image or of an extension.
use Rattle.std.proofs.Common.{◌≡◌, ℕ, zero, Bool, List, [], ◌∷◌, length, Option, Some, None, Ok, Err, inl, inr, refl, sym, ap, subst, arith}
use Rattle.std.specs.Prelude.{Contains, Result}
use Rattle.std.specs.FinMap.{FinMap}
use Rattle.std.proofs.lemmas.List.Elements.{Contains-append_right}
use Rattle.ext_lines.specs.ByteOrder.{bytes_cmp}
use Rattle.ext_text.specs.declared.arch.Arch.{Arch}
use Rattle.ext_tree.specs.Tree.{Entries}
use Rattle.ext_host.specs.Drawn.{HasFile}
use Rattle.ext_host.specs.Held.{HeldFile}
use Rattle.ext_host.specs.Planning.{IsBaseTree}
use Rattle.ext_host.specs.Shelf.{Told}
use Rattle.ext_host.specs.declared.host.Host.{Host}
use Rattle.ext_host.specs.declared.shelf.ShelfErr.{ShelfErr}
use Rattle.ext_find.specs.HostRelease.{IsGiven, ShelfFault}
use Rattle.ext_find.specs.declared.found.BreakWhy.{BreakWhy}
use Rattle.ext_units.specs.Body.{IsTreeOf, ReadsImage}
use Rattle.ext_units.specs.ImageName.{image_name}
use Rattle.ext_units.specs.declared.body.Body.{Body}
use Rattle.ext_units.specs.declared.errors.BodyErr.{BodyErr}
use Rattle.ext_units.specs.declared.errors.BodyErr.TheVariants as body_errors
use Rattle.ext_units.specs.declared.image.Image.{Image}
use Rattle.ext_added.specs.declared.ask.Ask.{Ask}
use Rattle.ext_port.specs.Errors.{port_err_of_body}
use Rattle.ext_port.specs.Files.{AreAlike, FileFails}
use Rattle.ext_port.specs.Laws.{IsUncounted}
use Rattle.ext_port.specs.Starting.{start_host}
use Rattle.ext_port.specs.declared.attaching.Attach.{Attach}
use Rattle.ext_port.specs.declared.errors.PortErr.{PortErr}
use Rattle.ext_port.specs.declared.errors.PortErr.TheVariants as port_errors
use Rattle.ext_port.proofs.ForCallers.{IsUncountedBody, fails_in_host, given_uncounted, image_alike, image_counts, image_fails, start_file}
use Rattle.ext_portext.specs.Errors.{portext_err_of_port}
use Rattle.ext_portext.specs.Extensions.{AreExtending, ExtensionFails, FirstFails, IsExtending}
use Rattle.ext_portext.specs.Files.{IsExtendedFile}
use Rattle.ext_portext.specs.Judged.{ExtensionFileFails, FitsAs, IsExtensionFile}
use Rattle.ext_portext.specs.Laws.{ExtendedAlike, ExtendedNotGiven, ExtendedUncounted, IsUncountedExtended}
use Rattle.ext_portext.specs.Lines.{extension_lines}
use Rattle.ext_portext.specs.Wants.{AttachesExtended, FittingExtensionsWant, as_extended}
use Rattle.ext_portext.specs.declared.errors.ExtWhy.{ExtWhy}
use Rattle.ext_portext.specs.declared.errors.PortExtErr.{PortExtErr}
use Rattle.ext_portext.specs.declared.errors.PortExtErr.TheVariants as errors
use Rattle.ext_portext.specs.declared.extending.Extending.{Extending}

-- the release file of an extension is a file of its tree
extension_file : (tree : Entries HeldFile) (name : List ℕ) (held : HeldFile) → IsExtensionFile tree name held → HasFile tree held
extension_file tree name held leads = record { path = leads.0; attributes = leads.1; stands = leads.3 }

-- an extension that fails fails with one of three errors
fails_as : (Q : PortExtErr → Type 0) (told : HeldFile → Told) (host : Host) (base : Entries HeldFile) (release : FinMap bytes_cmp (List ℕ)) (old new : ℕ) (at : ℕ) (image : Image) (e : PortExtErr)
    → ExtensionFails told host base release old new at image e
    → ((s : ShelfErr) → ExtensionFails told host base release old new at image (errors.Port (port_errors.Shelf s)) → Q (errors.Port (port_errors.Shelf s)))
    → ((index : ℕ) → ExtensionFails told host base release old new at image (errors.NoExtension index) → Q (errors.NoExtension index))
    → ((index : ℕ) (why : ExtWhy) → ExtensionFails told host base release old new at image (errors.Extension index why) → Q (errors.Extension index why))
    → Q e
fails_as Q told host base release old new at image errors.OutOfMemory fails shelf none unfit = absurd fails
fails_as Q told host base release old new at image (errors.Port port_errors.OutOfMemory) fails shelf none unfit = absurd fails
fails_as Q told host base release old new at image (errors.Port port_errors.NoSuchImage) fails shelf none unfit = absurd fails
fails_as Q told host base release old new at image (errors.Port port_errors.AlreadyAttached) fails shelf none unfit = absurd fails
fails_as Q told host base release old new at image (errors.Port port_errors.NotAttached) fails shelf none unfit = absurd fails
fails_as Q told host base release old new at image (errors.Port port_errors.NotPortable) fails shelf none unfit = absurd fails
fails_as Q told host base release old new at image (errors.Port (port_errors.BadRelease line)) fails shelf none unfit = absurd fails
fails_as Q told host base release old new at image (errors.Port (port_errors.PrefixForbidden prefix)) fails shelf none unfit = absurd fails
fails_as Q told host base release old new at image (errors.Port port_errors.NoUnits) fails shelf none unfit = absurd fails
fails_as Q told host base release old new at image (errors.Port port_errors.NoProfile) fails shelf none unfit = absurd fails
fails_as Q told host base release old new at image (errors.Port (port_errors.ReadOnly path)) fails shelf none unfit = absurd fails
fails_as Q told host base release old new at image (errors.Port (port_errors.UnitExists path)) fails shelf none unfit = absurd fails
fails_as Q told host base release old new at image (errors.Port (port_errors.NotDirectory path)) fails shelf none unfit = absurd fails
fails_as Q told host base release old new at image (errors.Port (port_errors.Limit which)) fails shelf none unfit = absurd fails
fails_as Q told host base release old new at image (errors.Port (port_errors.Shelf s)) fails shelf none unfit = shelf s fails
fails_as Q told host base release old new at image (errors.NoExtension index) fails shelf none unfit = none index fails
fails_as Q told host base release old new at image (errors.Extension index why) fails shelf none unfit = unfit index why fails
fails_as Q told host base release old new at image (errors.Limit which) fails shelf none unfit = absurd fails

-- by what is told

module _ (told other : HeldFile → Told) (old new : ℕ) (again : Bool) (host : Host) (alike : AreAlike host told other) (ask : Ask) (base : Entries HeldFile) (is_base : IsBaseTree (start_host again ask.image host) base) (release : FinMap bytes_cmp (List ℕ)) where
  abbrev start : Host
  start = start_host again ask.image host

  -- of the release file of an extension both tell one thing
  same_told : (place : List (List ℕ)) (tree : Entries HeldFile) (name : List ℕ) (held : HeldFile) → IsTreeOf base place tree → IsExtensionFile tree name held → told held ≡ other held
  same_told place tree name held is file = alike held (start_file again ask.image host base is_base place tree is held (extension_file tree name held file))

  fits_alike : (arch : Arch) (place : List (List ℕ)) (tree : Entries HeldFile) (name : List ℕ) (broken : Option BreakWhy) (why : Option ExtWhy) → IsTreeOf base place tree → FitsAs release arch told tree name broken why → FitsAs release arch other tree name broken why
  fits_alike arch place tree name (Some broken) why is fits = fits
  fits_alike arch place tree name None why is fits = record {
    held = fits.held;
    is_file = fits.is_file;
    bytes = fits.bytes;
    given = subst (λ t. IsGiven t fits.held fits.bytes) (same_told place tree name fits.held is fits.is_file) fits.given;
    fits = fits.fits;
  }

  extending_alike : (image : Image) (extending : Extending) (why : Option ExtWhy) → IsExtending told start base release image extending why → IsExtending other start base release image extending why
  extending_alike image extending why is = record {
    broken = is.broken;
    at_place = is.at_place;
    is_tree = is.is_tree;
    fits = fits_alike start.arch extending.place extending.tree (image_name image) is.broken why is.is_tree is.fits;
  }

  all_alike : (images : List Image) (all : List Extending) → AreExtending told start base release images all → AreExtending other start base release images all
  all_alike [] [] are = tt
  all_alike [] (x ∷ all) are = absurd are
  all_alike (image ∷ images) [] are = absurd are
  all_alike (image ∷ images) (x ∷ all) are = (extending_alike image x None are.0, all_alike images all are.1)

  file_alike : (place : List (List ℕ)) (tree : Entries HeldFile) (name : List ℕ) (e : ShelfErr) → IsTreeOf base place tree → ExtensionFileFails told old new tree name e → ExtensionFileFails other old new tree name e
  file_alike place tree name e is fails = record {
    held = fails.held;
    is_file = fails.is_file;
    fault = subst (λ t. ShelfFault old new t fails.held e) (same_told place tree name fails.held is fails.is_file) fails.fault;
  }

  fails_alike : (at : ℕ) (image : Image) (e : PortExtErr) → ExtensionFails told start base release old new at image e → ExtensionFails other start base release old new at image e
  fails_alike at image e fails =
      fails_as (ExtensionFails other start base release old new at image) told start base release old new at image e fails
      (λ s f. (f.0, f.1, f.2, file_alike f.0.place f.0.tree (image_name image) s f.2 f.3))
      (λ index none. none)
      (λ index why unfit. (unfit.0, (unfit.1.0, extending_alike image unfit.1.0 (Some why) unfit.1.1)))

  first_alike : (images : List Image) (e : PortExtErr) → FirstFails told start base release old new images e → FirstFails other start base release old new images e
  first_alike images e first = record {
    before = first.before;
    image = first.image;
    after = first.after;
    among = first.among;
    fitting = first.fitting;
    fit = all_alike first.before first.fitting first.fit;
    fails = fails_alike (length first.before) first.image e first.fails;
  }

pub extended_alike : ExtendedAlike
extended_alike told other old new again host ask images result alike (base, is_base, inl (body, reads, inl (extensions, fit, wants))) = (
  base,
  is_base,
  inl (
    body,
    image_alike told other old new again host alike ask.image base is_base host.arch ask.image (Ok body) reads,
    inl (extensions, all_alike told other old new again host alike ask base is_base body.release images extensions fit, wants),
  ),
)
extended_alike told other old new again host ask images result alike (base, is_base, inl (body, reads, inr (e, fails, is))) = (
  base,
  is_base,
  inl (
    body,
    image_alike told other old new again host alike ask.image base is_base host.arch ask.image (Ok body) reads,
    inr (e, first_alike told other old new again host alike ask base is_base body.release images e fails, is),
  ),
)
extended_alike told other old new again host ask images result alike (base, is_base, inr (e, reads, is)) =
    (base, is_base, inr (e, image_alike told other old new again host alike ask.image base is_base host.arch ask.image (Err e) reads, is))

-- by the faults that are counted

module _ (told : HeldFile → Told) (host : Host) (base : Entries HeldFile) (release : FinMap bytes_cmp (List ℕ)) (old new other_old other_new : ℕ) where
  fails_counts : (at : ℕ) (image : Image) (e : PortExtErr) → IsUncountedExtended (Err e) → ExtensionFails told host base release old new at image e → ExtensionFails told host base release other_old other_new at image e
  fails_counts at image e uncounted fails =
      fails_as (λ x. IsUncountedExtended (Err x) → ExtensionFails told host base release other_old other_new at image x) told host base release old new at image e fails
      (λ s f none. absurd none)
      (λ index none _. none)
      (λ index why unfit _. unfit) uncounted

  first_counts : (images : List Image) (e : PortExtErr) → IsUncountedExtended (Err e) → FirstFails told host base release old new images e → FirstFails told host base release other_old other_new images e
  first_counts images e uncounted first = record {
    before = first.before;
    image = first.image;
    after = first.after;
    among = first.among;
    fitting = first.fitting;
    fit = first.fit;
    fails = fails_counts (length first.before) first.image e uncounted first.fails;
  }

-- a refusal by the image
image_uncounted : (e : BodyErr) → IsUncountedExtended (Err (portext_err_of_port (port_err_of_body e))) → IsUncountedBody (Err e)
image_uncounted body_errors.OutOfMemory uncounted = tt
image_uncounted body_errors.NoSuchImage uncounted = tt
image_uncounted body_errors.NotPortable uncounted = tt
image_uncounted (body_errors.BadRelease line) uncounted = tt
image_uncounted (body_errors.Shelf e) uncounted = uncounted

pub extended_counts_law : ExtendedUncounted
extended_counts_law told old new other_old other_new again host ask images result uncounted (base, is_base, inl (body, reads, inl fit)) =
    (base, is_base, inl (body, image_counts told old new other_old other_new base host.arch ask.image (Ok body) tt reads, inl fit))
extended_counts_law told old new other_old other_new again host ask images result uncounted (base, is_base, inl (body, reads, inr (e, fails, is))) = (
  base,
  is_base,
  inl (
    body,
    image_counts told old new other_old other_new base host.arch ask.image (Ok body) tt reads,
    inr (e, first_counts told (start_host again ask.image host) base body.release old new other_old other_new images e (subst IsUncountedExtended is uncounted) fails, is),
  ),
)
extended_counts_law told old new other_old other_new again host ask images result uncounted (base, is_base, inr (e, reads, is)) =
    (base, is_base, inr (e, image_counts told old new other_old other_new base host.arch ask.image (Err e) (image_uncounted e (subst IsUncountedExtended is uncounted)) reads, is))

-- as if there were none
pub extended_counts : (told : HeldFile → Told) (old new : ℕ) (again : Bool) (host : Host) (ask : Ask) (images : List Image) (result : Result Attach PortExtErr) → IsUncountedExtended result
    → AttachesExtended told old new again host ask images result → AttachesExtended told 0 0 again host ask images result
extended_counts told old new again host ask images result uncounted attaches = extended_counts_law told old new 0 0 again host ask images result uncounted attaches

-- what was not given

-- what attaching gives with the tree of the units is no error of the shelf
as_uncounted : (r : Result Attach PortErr) → IsUncounted r → IsUncountedExtended (as_extended r)
as_uncounted (Ok attach) uncounted = tt
as_uncounted (Err port_errors.OutOfMemory) uncounted = tt
as_uncounted (Err port_errors.NoSuchImage) uncounted = tt
as_uncounted (Err port_errors.AlreadyAttached) uncounted = tt
as_uncounted (Err port_errors.NotAttached) uncounted = tt
as_uncounted (Err port_errors.NotPortable) uncounted = tt
as_uncounted (Err (port_errors.BadRelease line)) uncounted = tt
as_uncounted (Err (port_errors.PrefixForbidden prefix)) uncounted = tt
as_uncounted (Err port_errors.NoUnits) uncounted = tt
as_uncounted (Err port_errors.NoProfile) uncounted = tt
as_uncounted (Err (port_errors.ReadOnly path)) uncounted = tt
as_uncounted (Err (port_errors.UnitExists path)) uncounted = tt
as_uncounted (Err (port_errors.NotDirectory path)) uncounted = tt
as_uncounted (Err (port_errors.Limit which)) uncounted = tt
as_uncounted (Err (port_errors.Shelf e)) uncounted = uncounted

fitting_uncounted : (again : Bool) (host : Host) (ask : Ask) (body : Body) (extensions : List Extending) (r : Result Attach PortExtErr) → FittingExtensionsWant again host ask body extensions r → IsUncountedExtended r
fitting_uncounted again host ask body extensions r (tree, is, inl (few, (given, wants, same))) =
    subst IsUncountedExtended (sym same) (as_uncounted given (given_uncounted given again host ask body tree (extension_lines extensions) wants))
fitting_uncounted again host ask body extensions r (tree, is, inr (many, same)) = subst IsUncountedExtended (sym same) tt

same_fault : (e f : ShelfErr) → ◌≡◌ {A = Result Attach PortExtErr} (Err (errors.Port (port_errors.Shelf e))) (Err (errors.Port (port_errors.Shelf f))) → f ≡ e
same_fault e f same = cc

-- a refusal by the image that is an error of the shelf
shelf_refusal : (P : BodyErr → Type 0) (e : ShelfErr) (err : BodyErr) → ◌≡◌ {A = Result Attach PortExtErr} (Err (errors.Port (port_errors.Shelf e))) (Err (portext_err_of_port (port_err_of_body err))) → P err → P (body_errors.Shelf e)
shelf_refusal P e body_errors.OutOfMemory is reads = absurd (subst IsUncountedExtended (sym is) tt)
shelf_refusal P e body_errors.NoSuchImage is reads = absurd (subst IsUncountedExtended (sym is) tt)
shelf_refusal P e body_errors.NotPortable is reads = absurd (subst IsUncountedExtended (sym is) tt)
shelf_refusal P e (body_errors.BadRelease line) is reads = absurd (subst IsUncountedExtended (sym is) tt)
shelf_refusal P e (body_errors.Shelf f) is reads = subst (λ x. P (body_errors.Shelf x)) (same_fault e f is) reads

-- and one by the first extension that fails
err_is : (e : PortExtErr) (err : PortExtErr) → ◌≡◌ {A = Result Attach PortExtErr} (Err e) (Err err) → err ≡ e
err_is e err same = sym (ap (λ (r : Result Attach PortExtErr). elim r as (λ _. PortExtErr) [ Ok v ↦ e | Err x ↦ x ]) same)

first_not_given : (told : HeldFile → Told) (old new : ℕ) (again : Bool) (host : Host) (ask : Ask) (base : Entries HeldFile) → IsBaseTree (start_host again ask.image host) base → (release : FinMap bytes_cmp (List ℕ)) (images : List Image) (e : ShelfErr)
    → FirstFails told (start_host again ask.image host) base release old new images (errors.Port (port_errors.Shelf e)) → FileFails (IsExtendedFile again host ask images) host told old new e
first_not_given told old new again host ask base is_base release images e first =
    let extending = first.fails.0 in
    let fails = first.fails.3 in
    record {
      held = fails.held;
      is_read = (
        base,
        is_base,
        inr (
          first.image,
          subst (λ xs. Contains xs first.image) (sym first.among) (Contains-append_right first.before (first.image ∷ first.after) first.image (zero, omega arith, refl)),
          record { place = extending.place; at_place = first.fails.1; tree = extending.tree; is_tree = first.fails.2; is_file = fails.is_file },
        ),
      );
      file = start_file again ask.image host base is_base extending.place extending.tree first.fails.2 fails.held (extension_file extending.tree (image_name first.image) fails.held fails.is_file);
      cause = fails.fault;
    }

pub extended_not_given : ExtendedNotGiven
extended_not_given told old new again host ask images e (base, is_base, inl (body, reads, inl (extensions, fit, wants))) =
    absurd (fitting_uncounted again host ask body extensions (Err (errors.Port (port_errors.Shelf e))) wants)
extended_not_given told old new again host ask images e (base, is_base, inl (body, reads, inr (err, fails, same))) =
    first_not_given told old new again host ask base is_base body.release images e
    (subst (FirstFails told (start_host again ask.image host) base body.release old new images) (err_is (errors.Port (port_errors.Shelf e)) err same) fails)
extended_not_given told old new again host ask images e (base, is_base, inr (err, reads, same)) =
    fails_in_host told old new e again host ask.image base is_base host.arch ask.image (IsExtendedFile again host ask images) (λ held read. (base, is_base, inl read))
    (image_fails told old new e base host.arch ask.image (shelf_refusal (λ x. ReadsImage told old new base host.arch ask.image (Err x)) e err same reads))
