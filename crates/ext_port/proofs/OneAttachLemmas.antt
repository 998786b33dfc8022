-- One thing comes of attaching an image.
use Rattle.std.proofs.Common.{◌≡◌, ℕ, Bool, List, [], ◌++◌, Option, Some, None, Ok, Err, is_some, inl, inr, sym, ap, ◌∙◌, subst}
use Rattle.std.specs.Prelude.{◌⊎◌, Result}
use Rattle.std.proofs.lemmas.Option.{none-some, same_Some}
use Rattle.ext_text.specs.declared.arch.Arch.{Arch}
use Rattle.ext_text.specs.declared.which.Which.{Which}
use Rattle.ext_tree.specs.Graft.{is_non_directory_at}
use Rattle.ext_tree.specs.Tree.{Entries, lookup}
use Rattle.ext_walk.specs.Leads.{LeadsToDirectory}
use Rattle.ext_host.specs.Held.{HeldFile}
use Rattle.ext_host.specs.Planning.{IsBaseTree}
use Rattle.ext_host.specs.ReadOnly.{is_read_only}
use Rattle.ext_host.specs.Shelf.{Told}
use Rattle.ext_host.specs.declared.host.Host.{Host}
use Rattle.ext_units.specs.Body.{ReadsBody, ReadsImage}
use Rattle.ext_units.specs.Image.{IsImageAt}
use Rattle.ext_units.specs.Laws.{GivesOneText, IsOfImage, IsOfUnits, OneChoice, OneImage}
use Rattle.ext_units.specs.Units.{names_of}
use Rattle.ext_units.specs.declared.body.Body.{Body}
use Rattle.ext_units.specs.declared.errors.BodyErr.{BodyErr}
use Rattle.ext_units.specs.declared.errors.BodyErr.TheVariants as body_errors
use Rattle.ext_units.specs.declared.errors.UnitsErr.{UnitsErr}
use Rattle.ext_units.specs.declared.errors.UnitsErr.TheVariants as units_errors
use Rattle.ext_units.specs.declared.image.Image.{Image}
use Rattle.ext_units.specs.declared.image.Image.TheVariants.{Named, At}
use Rattle.ext_units.specs.declared.unit_file.UnitFile.{UnitFile}
use Rattle.ext_units.proofs.ForCallers.{image_leads}
use Rattle.ext_updated.proofs.ForCallers.{one_updated}
use Rattle.ext_attached.proofs.ForCallers.{one_least}
use Rattle.ext_added.specs.Added.{pieces_of}
use Rattle.ext_added.specs.Attaching.{IsAttaching}
use Rattle.ext_added.specs.Tops.{tops_of, ways_of}
use Rattle.ext_added.specs.declared.ask.Ask.{Ask}
use Rattle.ext_added.specs.declared.attaching.Attaching.{Attaching}
use Rattle.ext_added.specs.declared.profile.Profile.{Profile}
use Rattle.ext_port.specs.Errors.{port_err_of_body, port_err_of_units}
use Rattle.ext_port.specs.Laws.{IsOfAttach, OneAttach}
use Rattle.ext_port.specs.Limits.{first_limit, new_bytes}
use Rattle.ext_port.specs.NextHost.{attached_host, attachment_of}
use Rattle.ext_port.specs.Starting.{cut_of, start_host, unfit}
use Rattle.ext_port.specs.Wants.{AttachesBody, BlockingWants, BodyWants, FitWants, FittingWants, LockedWants, ProfileWants, SizedWants, StandingWants, UnitsWant, UnlessPassing}
use Rattle.ext_port.specs.declared.attaching.Attach.{Attach}
use Rattle.ext_port.specs.declared.errors.PortErr.{PortErr}
use Rattle.ext_port.specs.declared.errors.PortErr.TheVariants as errors
use Rattle.ext_port.proofs.OnePartsLemmas.{no_profile, one_added, one_made, one_profile}
use Rattle.ext_port.proofs.StartLemmas.{one_base}

-- results

abbrev ok_of : (A E : Type 0) → A → Result A E
ok_of A E x = Ok x

abbrev err_of : (A E : Type 0) → E → Result A E
err_of A E e = Err e

ok_same : {A E : Type 0} (x y : A) → ok_of A E x ≡ ok_of A E y → x ≡ y
ok_same {A} {E} x y same = ap (λ (r : Result A E). elim r as (λ _. A) [ Ok v ↦ v | Err e ↦ x ]) same

err_same : {A E : Type 0} (x y : E) → err_of A E x ≡ err_of A E y → x ≡ y
err_same {A} {E} x y same = ap (λ (r : Result A E). elim r as (λ _. E) [ Ok v ↦ x | Err e ↦ e ]) same

ok_err : {A E B : Type 0} {x : A} {e : E} → ok_of A E x ≡ err_of A E e → B
ok_err {A} {E} same = absurd (subst (λ (r : Result A E). elim r as (λ _. Type 0) [ Ok v ↦ Unit {0} | Err e ↦ ⊥ ]) same tt)

-- what is known of a refusal by an image, or by its units

body_known : (e : BodyErr) → IsOfAttach (Err (port_err_of_body e)) → IsOfImage (Err e)
body_known body_errors.OutOfMemory known = known
body_known body_errors.NoSuchImage known = tt
body_known body_errors.NotPortable known = tt
body_known (body_errors.BadRelease line) known = tt
body_known (body_errors.Shelf e) known = known

units_known : (e : UnitsErr) → IsOfAttach (Err (port_err_of_units e)) → IsOfUnits (Err e)
units_known units_errors.OutOfMemory known = known
units_known (units_errors.PrefixForbidden prefix) known = tt
units_known units_errors.NoUnits known = tt

-- what is put

module _ (a b : Result Attach PortErr) where
  -- the least path is one
  unless_once : (test : List (List ℕ) → Bool) (paths : List (List (List ℕ))) (refused : List (List ℕ) → PortErr) (Wants : Result Attach PortErr → Type 0) → (Wants a → Wants b → a ≡ b)
      → UnlessPassing test paths refused Wants a → UnlessPassing test paths refused Wants b → a ≡ b
  unless_once test paths refused Wants once (inl (none, x)) (inl (also, y)) = once x y
  unless_once test paths refused Wants once (inl (none, x)) (inr (p, least, is)) = absurd (none-some p (one_least test paths None (Some p) none least))
  unless_once test paths refused Wants once (inr (p, least, is)) (inl (none, y)) = absurd (none-some p (one_least test paths None (Some p) none least))
  unless_once test paths refused Wants once (inr (p, least, is)) (inr (q, lowest, same)) =
      is ∙ ap (λ (r : List (List ℕ)). err_of Attach PortErr (refused r)) (same_Some p q (one_least test paths (Some p) (Some q) least lowest)) ∙ sym same

  module _ (start : Host) (ask : Ask) (image tree : Entries HeldFile) (made : Attaching) where
    abbrev attached_with : Entries HeldFile → List (List (List ℕ)) → Result Attach PortErr
    attached_with root added = Ok (record { plan = record { next = attached_host start added root (attachment_of ask made.place added) }; units = names_of made.units })

    sized_once : (root : Entries HeldFile) (limit : Option Which) → SizedWants start ask image tree made root limit a → SizedWants start ask image tree made root limit b → a ≡ b
    sized_once root None (added, are, is) (other, also, same) = is ∙ ap (attached_with root) (one_added (tops_of made) added other are also) ∙ sym same
    sized_once root (Some which) is same = is ∙ sym same

    fitting_once : FittingWants start ask image tree made a → FittingWants start ask image tree made b → a ≡ b
    fitting_once (inl (fits, (root, updated, x))) (inl (also, (other, same, y))) =
        let one = one_updated start.root [] (pieces_of made image tree) root other updated same in
        sized_once other (first_limit (new_bytes made) other start.lower) (subst (λ es. SizedWants start ask image tree made es (first_limit (new_bytes made) es start.lower) a) one x) y
    fitting_once (inl (fits, x)) (inr (long, is)) = absurd (long fits)
    fitting_once (inr (long, is)) (inl (fits, y)) = absurd (long fits)
    fitting_once (inr (long, is)) (inr (also, same)) = is ∙ sym same

    blocking_once : BlockingWants start ask image tree made a → BlockingWants start ask image tree made b → a ≡ b
    blocking_once x y =
        unless_once (λ path. is_non_directory_at (lookup start.root path)) (ways_of made) (λ path. errors.NotDirectory path) (FittingWants start ask image tree made) fitting_once x y

    standing_once : StandingWants start ask image tree made a → StandingWants start ask image tree made b → a ≡ b
    standing_once x y =
        unless_once (λ path. is_some (lookup start.root path)) (tops_of made) (λ path. errors.UnitExists path) (BlockingWants start ask image tree made) blocking_once x y

    locked_once : (cut : List (List (List ℕ))) → LockedWants start ask image tree made cut a → LockedWants start ask image tree made cut b → a ≡ b
    locked_once cut x y =
        unless_once (is_read_only start) (cut ++ tops_of made) (λ path. errors.ReadOnly path) (StandingWants start ask image tree made) standing_once x y

  module _ (one_choice : OneChoice HeldFile) (known : IsOfAttach a) (also_known : IsOfAttach b) (start : Host) (cut : List (List (List ℕ))) (base : Entries HeldFile) (ask : Ask) where
    module _ (body : Body) (tree : Entries HeldFile) (lines : List ℕ) where
      profile_once : (units : List UnitFile) → ProfileWants start cut base ask body tree lines units a → ProfileWants start cut base ask body tree lines units b → a ≡ b
      profile_once units (inl (profile, is, (made, are, x))) (inl (other, same, (also, too, y))) =
          let one : profile ≡ other = one_profile base ask.profile profile other is same in
          let one_thing : made ≡ also = one_made base ask body units other lines made also (subst (λ (p : Profile). IsAttaching base ask body units p lines made) one are) too in
          locked_once start ask body.tree tree also cut (subst (λ (m : Attaching). LockedWants start ask body.tree tree m cut a) one_thing x) y
      profile_once units (inl (profile, is, x)) (inr (none, same)) = absurd (no_profile base ask.profile profile none is)
      profile_once units (inr (none, is)) (inl (profile, same, y)) = absurd (no_profile base ask.profile profile none same)
      profile_once units (inr (none, is)) (inr (also, same)) = is ∙ sym same

      -- one thing comes of an image that was read, and its units
      pub units_once : UnitsWant start cut base ask body tree lines a → UnitsWant start cut base ask body tree lines b → a ≡ b
      units_once (inl (units, chosen, x)) (inl (others, too, y)) =
          let one : units ≡ others = ok_same units others (one_choice body tree ask.prefixes (Ok units) (Ok others) tt tt chosen too) in
          profile_once others (subst (λ us. ProfileWants start cut base ask body tree lines us a) one x) y
      units_once (inl (units, chosen, x)) (inr (e, too, is)) = ok_err (one_choice body tree ask.prefixes (Ok units) (Err e) tt (units_known e (subst IsOfAttach is also_known)) chosen too)
      units_once (inr (e, chosen, is)) (inl (units, too, y)) = ok_err (one_choice body tree ask.prefixes (Ok units) (Err e) tt (units_known e (subst IsOfAttach is known)) too chosen)
      units_once (inr (e, chosen, is)) (inr (f, too, same)) =
          is
          ∙ ap (λ (x : UnitsErr). err_of Attach PortErr (port_err_of_units x))
          (err_same e f (one_choice body tree ask.prefixes (Err e) (Err f) (units_known e (subst IsOfAttach is known)) (units_known f (subst IsOfAttach same also_known)) chosen too))
          ∙ sym same

-- an image at a place leads to a directory
place_leads : (base : Entries HeldFile) (arch : Arch) (image : Image) (place : List (List ℕ)) → IsImageAt base arch image place → LeadsToDirectory base place
place_leads base arch (Named name) place at = image_leads base arch name place at
place_leads base arch (At path) place at = subst (LeadsToDirectory base) (sym at.0) at.1

module _ (told : HeldFile → Told) (old new : ℕ) (base : Entries HeldFile) (arch : Arch) (image : Image) (place : List (List ℕ)) (at : IsImageAt base arch image place) where
  -- what is read at its place is read of the image
  read_there : (e : BodyErr) → ReadsBody told old new base place (Err e) → ReadsImage told old new base arch image (Err e)
  read_there body_errors.OutOfMemory reads = tt
  read_there body_errors.NoSuchImage reads = absurd (reads (place_leads base arch image place at))
  read_there body_errors.NotPortable reads = (place, at, reads)
  read_there (body_errors.BadRelease line) reads = (place, at, reads)
  read_there (body_errors.Shelf e) reads = (place, at, reads)

-- one thing comes of a base

-- what comes of attaching with this base
abbrev InBase : (HeldFile → Told) → ℕ → ℕ → Bool → Host → Ask → Entries HeldFile → Result Attach PortErr → Type 0
InBase told old new again host ask base result =
    ((place : List (List ℕ)) × IsImageAt base host.arch ask.image place
    × FitWants (unfit again host ask.image) (BodyWants told old new (start_host again ask.image host) (cut_of again ask.image host) base ask place) result)
    ⊎ (((place : List (List ℕ)) → ¬ IsImageAt base host.arch ask.image place) × (result ≡ Err errors.NoSuchImage))

module _ (one_image : OneImage) (one_choice : OneChoice HeldFile) (told : HeldFile → Told) (gives : GivesOneText told) (old new other_old other_new : ℕ) (a b : Result Attach PortErr) (known : IsOfAttach a) (also_known : IsOfAttach b) where
  module _ (arch : Arch) (start : Host) (cut : List (List (List ℕ))) (ask : Ask) (base : Entries HeldFile) (p q : List (List ℕ)) (at : IsImageAt base arch ask.image p) (also_at : IsImageAt base arch ask.image q) where
    body_once : BodyWants told old new start cut base ask p a → BodyWants told other_old other_new start cut base ask q b → a ≡ b
    body_once (inl (body, reads, x)) (inl (other, too, y)) =
        let one : body ≡ other = ok_same body other (one_image told old new other_old other_new base arch ask.image (Ok body) (Ok other) gives tt tt (p, at, reads) (q, also_at, too)) in
        units_once a b one_choice known also_known start cut base ask other other.tree [] (subst (λ (v : Body). UnitsWant start cut base ask v v.tree [] a) one x) y
    body_once (inl (body, reads, x)) (inr (e, too, is)) =
        ok_err (one_image told old new other_old other_new base arch ask.image (Ok body) (Err e) gives tt (body_known e (subst IsOfAttach is also_known)) (p, at, reads) (read_there told other_old other_new base arch ask.image q also_at e too))
    body_once (inr (e, reads, is)) (inl (body, too, y)) =
        ok_err (one_image told other_old other_new old new base arch ask.image (Ok body) (Err e) gives tt (body_known e (subst IsOfAttach is known)) (q, also_at, too) (read_there told old new base arch ask.image p at e reads))
    body_once (inr (e, reads, is)) (inr (f, too, same)) =
        is
        ∙ ap (λ (x : BodyErr). err_of Attach PortErr (port_err_of_body x))
        (err_same e f (one_image told old new other_old other_new base arch ask.image (Err e) (Err f) gives (body_known e (subst IsOfAttach is known)) (body_known f (subst IsOfAttach same also_known))
        (read_there told old new base arch ask.image p at e reads) (read_there told other_old other_new base arch ask.image q also_at f too)))
        ∙ sym same

    fit_once : (o : Option PortErr) → FitWants o (BodyWants told old new start cut base ask p) a → FitWants o (BodyWants told other_old other_new start cut base ask q) b → a ≡ b
    fit_once None x y = body_once x y
    fit_once (Some refusal) is same = is ∙ sym same

  base_once : (again : Bool) (host : Host) (ask : Ask) (base : Entries HeldFile) → InBase told old new again host ask base a → InBase told other_old other_new again host ask base b → a ≡ b
  base_once again host ask base (inl (p, at, x)) (inl (q, also_at, y)) =
      fit_once host.arch (start_host again ask.image host) (cut_of again ask.image host) ask base p q at also_at (unfit again host ask.image) x y
  base_once again host ask base (inl (p, at, x)) (inr (none, is)) = absurd (none p at)
  base_once again host ask base (inr (none, is)) (inl (q, at, y)) = absurd (none q at)
  base_once again host ask base (inr (none, is)) (inr (also, same)) = is ∙ sym same

pub one_attach_law : OneImage → OneChoice HeldFile → OneAttach
one_attach_law one_image one_choice told old new other_old other_new again host ask a b gives known also_known (base, is_base, x) (other, also_base, y) =
    let same : base ≡ other = one_base (start_host again ask.image host) base other is_base also_base in
    base_once one_image one_choice told gives old new other_old other_new a b known also_known again host ask other (subst (λ es. InBase told old new again host ask es a) same x) y

-- one thing comes of an image that was read, with units from a tree and further lines
module _ (one_choice : OneChoice HeldFile) (again : Bool) (host : Host) (ask : Ask) (body : Body) (tree : Entries HeldFile) (lines : List ℕ) (a b : Result Attach PortErr) (known : IsOfAttach a) (also_known : IsOfAttach b) where
  abbrev Given : Result Attach PortErr → Type 0
  Given result =
      (base : Entries HeldFile) × IsBaseTree (start_host again ask.image host) base
      × UnitsWant (start_host again ask.image host) (cut_of again ask.image host) base ask body tree lines result

  given_once : (o : Option PortErr) → FitWants o Given a → FitWants o Given b → a ≡ b
  given_once None (base, is_base, x) (other, also_base, y) =
      let same : base ≡ other = one_base (start_host again ask.image host) base other is_base also_base in
      units_once a b one_choice known also_known (start_host again ask.image host) (cut_of again ask.image host) other ask body tree lines
      (subst (λ es. UnitsWant (start_host again ask.image host) (cut_of again ask.image host) es ask body tree lines a) same x) y
  given_once (Some refusal) is same = is ∙ sym same

  pub one_attach_body : AttachesBody again host ask body tree lines a → AttachesBody again host ask body tree lines b → a ≡ b
  one_attach_body x y = given_once (unfit again host ask.image) x y
