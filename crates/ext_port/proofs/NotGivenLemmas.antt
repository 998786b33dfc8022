-- Where inspecting or attaching tells an error of the shelf, that did not give the release file of the image.
use Rattle.std.proofs.Common.{◌≡◌, ℕ, Bool, true, false, if◌then◌else◌, List, [], ◌++◌, Option, Some, None, Err, is_some, inl, inr, refl, sym, subst}
use Rattle.std.specs.Prelude.{Result}
use Rattle.std.specs.List.{list_any}
use Rattle.ext_text.specs.declared.arch.Arch.{Arch}
use Rattle.ext_text.specs.declared.which.Which.{Which}
use Rattle.ext_tree.specs.Graft.{is_non_directory_at}
use Rattle.ext_tree.specs.Tree.{Entries, lookup}
use Rattle.ext_host.specs.Held.{HeldFile}
use Rattle.ext_host.specs.Planning.{IsBaseTree}
use Rattle.ext_host.specs.ReadOnly.{is_read_only}
use Rattle.ext_host.specs.Shelf.{Told}
use Rattle.ext_host.specs.declared.host.Host.{Host}
use Rattle.ext_host.specs.declared.shelf.ShelfErr.{ShelfErr}
use Rattle.ext_find.specs.HostRelease.{ShelfFault}
use Rattle.ext_units.specs.Body.{ReadsBody, ReadsImage}
use Rattle.ext_units.specs.Image.{IsImageAt}
use Rattle.ext_units.specs.ImageName.{image_name}
use Rattle.ext_units.specs.declared.body.Body.{Body}
use Rattle.ext_units.specs.declared.errors.BodyErr.{BodyErr}
use Rattle.ext_units.specs.declared.errors.BodyErr.TheVariants as body_errors
use Rattle.ext_units.specs.declared.errors.UnitsErr.{UnitsErr}
use Rattle.ext_units.specs.declared.errors.UnitsErr.TheVariants as units_errors
use Rattle.ext_units.specs.declared.image.Image.{Image}
use Rattle.ext_units.specs.declared.unit_file.UnitFile.{UnitFile}
use Rattle.ext_attached.specs.Going.{goes_for, is_of_name}
use Rattle.ext_added.specs.Tops.{tops_of, ways_of}
use Rattle.ext_added.specs.declared.ask.Ask.{Ask}
use Rattle.ext_added.specs.declared.attaching.Attaching.{Attaching}
use Rattle.ext_port.specs.Errors.{port_err_of_body, port_err_of_units}
use Rattle.ext_port.specs.Files.{FileFails, IsAttachFile, IsImageFile, IsInspectFile}
use Rattle.ext_port.specs.Laws.{AttachNotGiven, InspectNotGiven, IsUncounted}
use Rattle.ext_port.specs.Limits.{first_limit, new_bytes}
use Rattle.ext_port.specs.Starting.{cut_of, start_host, unfit}
use Rattle.ext_port.specs.Wants.{AttachesBody, BlockingWants, BodyWants, FitWants, FittingWants, LockedWants, ProfileWants, SizedWants, StandingWants, UnitsWant, UnlessPassing}
use Rattle.ext_port.specs.declared.attaching.Attach.{Attach}
use Rattle.ext_port.specs.declared.errors.PortErr.{PortErr}
use Rattle.ext_port.specs.declared.errors.PortErr.TheVariants as errors
use Rattle.ext_port.proofs.MovedLemmas.{release_file, start_file}

-- what comes of an image that was read is no error of the shelf

-- a refusal by units is none
units_uncounted : (e : UnitsErr) → IsUncounted (Err (port_err_of_units e))
units_uncounted units_errors.OutOfMemory = tt
units_uncounted (units_errors.PrefixForbidden prefix) = tt
units_uncounted units_errors.NoUnits = tt

-- nor is one before the image is read
abbrev IsNoFault : Option PortErr → Type 0
IsNoFault None = Unit {0}
IsNoFault (Some refusal) = IsUncounted (Err refusal)

unfit_uncounted : (again : Bool) (host : Host) (image : Image) → IsNoFault (unfit again host image)
unfit_uncounted false host image = elim (list_any (is_of_name (image_name image)) host.attached) as (λ b. IsNoFault (if b then Some errors.AlreadyAttached else None)) [ true ↦ tt | false ↦ tt ]
unfit_uncounted true host image = elim (list_any (goes_for image) host.attached) as (λ b. IsNoFault (if b then None else Some errors.NotAttached)) [ true ↦ tt | false ↦ tt ]

module _ (r : Result Attach PortErr) where
  unless_uncounted : (test : List (List ℕ) → Bool) (paths : List (List (List ℕ))) (refused : List (List ℕ) → PortErr) (Wants : Result Attach PortErr → Type 0)
      → ((path : List (List ℕ)) → IsUncounted (Err (refused path))) → (Wants r → IsUncounted r) → UnlessPassing test paths refused Wants r → IsUncounted r
  unless_uncounted test paths refused Wants none more (inl (free, wants)) = more wants
  unless_uncounted test paths refused Wants none more (inr (path, least, is)) = subst IsUncounted (sym is) (none path)

  module _ (start : Host) (ask : Ask) (image tree : Entries HeldFile) (made : Attaching) where
    sized_uncounted : (root : Entries HeldFile) (limit : Option Which) → SizedWants start ask image tree made root limit r → IsUncounted r
    sized_uncounted root None (added, are, is) = subst IsUncounted (sym is) tt
    sized_uncounted root (Some which) is = subst IsUncounted (sym is) tt

    fitting_uncounted : FittingWants start ask image tree made r → IsUncounted r
    fitting_uncounted (inl (fits, (root, updated, wants))) = sized_uncounted root (first_limit (new_bytes made) root start.lower) wants
    fitting_uncounted (inr (long, is)) = subst IsUncounted (sym is) tt

    blocking_uncounted : BlockingWants start ask image tree made r → IsUncounted r
    blocking_uncounted wants =
        unless_uncounted (λ path. is_non_directory_at (lookup start.root path)) (ways_of made) (λ path. errors.NotDirectory path) (FittingWants start ask image tree made) (λ _. tt) fitting_uncounted wants

    standing_uncounted : StandingWants start ask image tree made r → IsUncounted r
    standing_uncounted wants =
        unless_uncounted (λ path. is_some (lookup start.root path)) (tops_of made) (λ path. errors.UnitExists path) (BlockingWants start ask image tree made) (λ _. tt) blocking_uncounted wants

    locked_uncounted : (cut : List (List (List ℕ))) → LockedWants start ask image tree made cut r → IsUncounted r
    locked_uncounted cut wants =
        unless_uncounted (is_read_only start) (cut ++ tops_of made) (λ path. errors.ReadOnly path) (StandingWants start ask image tree made) (λ _. tt) standing_uncounted wants

  module _ (start : Host) (cut : List (List (List ℕ))) (base : Entries HeldFile) (ask : Ask) (body : Body) (tree : Entries HeldFile) (lines : List ℕ) where
    profile_uncounted : (units : List UnitFile) → ProfileWants start cut base ask body tree lines units r → IsUncounted r
    profile_uncounted units (inl (profile, is, (made, are, wants))) = locked_uncounted start ask body.tree tree made cut wants
    profile_uncounted units (inr (none, is)) = subst IsUncounted (sym is) tt

    want_uncounted : UnitsWant start cut base ask body tree lines r → IsUncounted r
    want_uncounted (inl (units, chosen, wants)) = profile_uncounted units wants
    want_uncounted (inr (e, chosen, is)) = subst IsUncounted (sym is) (units_uncounted e)

  refusal_uncounted : (o : Option PortErr) (Wants : Result Attach PortErr → Type 0) → IsNoFault o → (Wants r → IsUncounted r) → FitWants o Wants r → IsUncounted r
  refusal_uncounted None Wants none more wants = more wants
  refusal_uncounted (Some refusal) Wants none more is = subst IsUncounted (sym is) none

  -- what comes of it with units from a tree and further lines
  pub given_uncounted : (again : Bool) (host : Host) (ask : Ask) (body : Body) (tree : Entries HeldFile) (lines : List ℕ) → AttachesBody again host ask body tree lines r → IsUncounted r
  given_uncounted again host ask body tree lines wants =
      refusal_uncounted (unfit again host ask.image)
      (λ x. (base : Entries HeldFile) × IsBaseTree (start_host again ask.image host) base × UnitsWant (start_host again ask.image host) (cut_of again ask.image host) base ask body tree lines x)
      (unfit_uncounted again host ask.image) (λ w. want_uncounted (start_host again ask.image host) (cut_of again ask.image host) w.0 ask body tree lines w.2) wants

-- what was not given

-- the release file of an image in this base was not given
pub record ImageFails (told : HeldFile → Told) (old new : ℕ) (base : Entries HeldFile) (arch : Arch) (image : Image) (e : ShelfErr) : Type 0 where
  pub held : HeldFile
  pub is_read : IsImageFile base arch image held
  pub cause : ShelfFault old new (told held) held e

-- a refusal by an image that is an error of the shelf
same_fault : (e f : ShelfErr) → ◌≡◌ {A = Result Attach PortErr} (Err (errors.Shelf e)) (Err (errors.Shelf f)) → f ≡ e
same_fault e f same = cc

pub shelf_refusal : (P : BodyErr → Type 0) (e : ShelfErr) (err : BodyErr) → ◌≡◌ {A = Result Attach PortErr} (Err (errors.Shelf e)) (Err (port_err_of_body err)) → P err → P (body_errors.Shelf e)
shelf_refusal P e body_errors.OutOfMemory is reads = absurd (subst IsUncounted (sym is) tt)
shelf_refusal P e body_errors.NoSuchImage is reads = absurd (subst IsUncounted (sym is) tt)
shelf_refusal P e body_errors.NotPortable is reads = absurd (subst IsUncounted (sym is) tt)
shelf_refusal P e (body_errors.BadRelease line) is reads = absurd (subst IsUncounted (sym is) tt)
shelf_refusal P e (body_errors.Shelf f) is reads = subst (λ x. P (body_errors.Shelf x)) (same_fault e f is) reads

module _ (told : HeldFile → Told) (old new : ℕ) (e : ShelfErr) where
  pub image_fails : (base : Entries HeldFile) (arch : Arch) (image : Image) → ReadsImage told old new base arch image (Err (body_errors.Shelf e)) → ImageFails told old new base arch image e
  image_fails base arch image (place, at, (tree, is_tree, fails)) = record {
    held = fails.held;
    is_read = record { place = place; at_place = at; tree = tree; is_tree = is_tree; is_file = fails.is_file };
    cause = fails.fault;
  }

  -- it is a file of the host
  pub fails_in_host : (again : Bool) (host : Host) (image : Image) (base : Entries HeldFile) → IsBaseTree (start_host again image host) base → (arch : Arch) (read : Image) (IsFile : HeldFile → Type 0)
      → ((held : HeldFile) → IsImageFile base arch read held → IsFile held) → ImageFails told old new base arch read e → FileFails IsFile host told old new e
  fails_in_host again host image base is_base arch read IsFile named fails = record {
    held = fails.held;
    is_read = named fails.held fails.is_read;
    file = start_file again image host base is_base fails.is_read.place fails.is_read.tree fails.is_read.is_tree fails.held (release_file fails.is_read.tree fails.held fails.is_read.is_file);
    cause = fails.cause;
  }

  module _ (start : Host) (cut : List (List (List ℕ))) (base : Entries HeldFile) (ask : Ask) (arch : Arch) (place : List (List ℕ)) (at : IsImageAt base arch ask.image place) where
    body_fails : BodyWants told old new start cut base ask place (Err (errors.Shelf e)) → ImageFails told old new base arch ask.image e
    body_fails (inl (body, reads, wants)) = absurd (want_uncounted (Err (errors.Shelf e)) start cut base ask body body.tree [] wants)
    body_fails (inr (err, reads, is)) = image_fails base arch ask.image (place, at, shelf_refusal (λ x. ReadsBody told old new base place (Err x)) e err is reads)

    -- where it may be attached
    fit_fails : (o : Option PortErr) → IsNoFault o → FitWants o (BodyWants told old new start cut base ask place) (Err (errors.Shelf e)) → (o ≡ None) × ImageFails told old new base arch ask.image e
    fit_fails None none wants = (refl, body_fails wants)
    fit_fails (Some refusal) none is = absurd (subst IsUncounted (sym is) none)

pub attach_not_given : AttachNotGiven
attach_not_given told old new again host ask e (base, is_base, inl (place, at, wants)) =
    let fails = fit_fails told old new e (start_host again ask.image host) (cut_of again ask.image host) base ask host.arch place at (unfit again host ask.image) (unfit_uncounted again host ask.image) wants in
    fails_in_host told old new e again host ask.image base is_base host.arch ask.image (IsAttachFile again host ask) (λ held read. (fails.0, (base, is_base, read))) fails.1
attach_not_given told old new again host ask e (base, is_base, inr (none, is)) = absurd (subst IsUncounted (sym is) tt)

pub inspect_not_given : InspectNotGiven
inspect_not_given told old new host base image given e is_base inspects =
    fails_in_host told old new e false host image base is_base host.arch image (IsInspectFile host image) (λ held read. (base, is_base, read)) (image_fails told old new e base host.arch image inspects)
