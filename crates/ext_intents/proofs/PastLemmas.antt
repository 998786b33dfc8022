-- An image that is attached leaves the past of its host.
use Rattle.std.proofs.Common.{◌≡◌, ℕ, Bool, true, false, List, [], ◌∷◌, Option, Some, None, Result, Ok, Err, inl, inr, refl, ap, ◌∙◌}
use Rattle.ext_text.specs.declared.which.Which.{Which}
use Rattle.ext_tree.specs.Tree.{Entries}
use Rattle.ext_host.specs.Held.{HeldFile}
use Rattle.ext_host.specs.Planning.{IsBaseTree}
use Rattle.ext_host.specs.Shelf.{Told}
use Rattle.ext_host.specs.declared.host.Host.{Host}
use Rattle.ext_host.specs.declared.past.Past.{Past}
use Rattle.ext_units.specs.declared.body.Body.{Body}
use Rattle.ext_units.specs.declared.image.Image.{Image}
use Rattle.ext_units.specs.declared.unit_file.UnitFile.{UnitFile}
use Rattle.ext_added.specs.declared.ask.Ask.{Ask}
use Rattle.ext_added.specs.declared.attaching.Attaching.{Attaching}
use Rattle.ext_port.specs.Limits.{first_limit, new_bytes}
use Rattle.ext_port.specs.Starting.{cut_of, start_host, unfit}
use Rattle.ext_port.specs.Wants.{Attaches, AttachesBody, BlockingWants, BodyWants, FitWants, FittingWants, LockedWants, ProfileWants, SizedWants, StandingWants, UnitsWant}
use Rattle.ext_port.specs.declared.attaching.Attach.{Attach}
use Rattle.ext_port.specs.declared.errors.PortErr.{PortErr}
use Rattle.ext_portext.specs.Wants.{AttachesExtended, ExtensionsWant, as_extended}
use Rattle.ext_portext.specs.declared.errors.PortExtErr.{PortExtErr}
use Rattle.ext_intents.specs.Portable.{Attached}

-- the past of the host that comes
abbrev past_after : {E : Type 0} → Host → Result Attach E → List Past
past_after host (Ok attach) = attach.plan.next.past
past_after host (Err e) = host.past

module _ (start : Host) where
  module _ (ask : Ask) (image tree : Entries HeldFile) (made : Attaching) (result : Result Attach PortErr) where
    sized_past : (root : Entries HeldFile) (limit : Option Which) → SizedWants start ask image tree made root limit result → past_after start result ≡ start.past
    sized_past root None (added, are, is) = ap (past_after start) is
    sized_past root (Some which) is = ap (past_after start) is

    fitting_past : FittingWants start ask image tree made result → past_after start result ≡ start.past
    fitting_past (inl (fits, (root, updated, sized))) = sized_past root (first_limit (new_bytes made) root start.lower) sized
    fitting_past (inr (long, is)) = ap (past_after start) is

    blocking_past : BlockingWants start ask image tree made result → past_after start result ≡ start.past
    blocking_past (inl (none, wants)) = fitting_past wants
    blocking_past (inr (path, least, is)) = ap (past_after start) is

    standing_past : StandingWants start ask image tree made result → past_after start result ≡ start.past
    standing_past (inl (none, wants)) = blocking_past wants
    standing_past (inr (path, least, is)) = ap (past_after start) is

    locked_past : (cut : List (List (List ℕ))) → LockedWants start ask image tree made cut result → past_after start result ≡ start.past
    locked_past cut (inl (none, wants)) = standing_past wants
    locked_past cut (inr (path, least, is)) = ap (past_after start) is

  module _ (cut : List (List (List ℕ))) (base : Entries HeldFile) (ask : Ask) (result : Result Attach PortErr) where
    profile_past : (body : Body) (tree : Entries HeldFile) (lines : List ℕ) (units : List UnitFile) → ProfileWants start cut base ask body tree lines units result
        → past_after start result ≡ start.past
    profile_past body tree lines units (inl (profile, is, (made, are, wants))) = locked_past ask body.tree tree made result cut wants
    profile_past body tree lines units (inr (none, is)) = ap (past_after start) is

    units_past : (body : Body) (tree : Entries HeldFile) (lines : List ℕ) → UnitsWant start cut base ask body tree lines result → past_after start result ≡ start.past
    units_past body tree lines (inl (units, chosen, wants)) = profile_past body tree lines units wants
    units_past body tree lines (inr (e, chosen, is)) = ap (past_after start) is

    body_past : (told : HeldFile → Told) (old new : ℕ) (place : List (List ℕ)) → BodyWants told old new start cut base ask place result → past_after start result ≡ start.past
    body_past told old new place (inl (body, reads, wants)) = units_past body body.tree [] wants
    body_past told old new place (inr (e, reads, is)) = ap (past_after start) is

  fit_past : (Wants : Result Attach PortErr → Type 0) (unfit : Option PortErr) (result : Result Attach PortErr) → (Wants result → past_after start result ≡ start.past)
      → FitWants unfit Wants result → past_after start result ≡ start.past
  fit_past Wants None result past wants = past wants
  fit_past Wants (Some e) result past is = ap (past_after start) is

-- the host from which an image is attached has the past of the host
start_past : (again : Bool) (image : Image) (host : Host) → (start_host again image host).past ≡ host.past
start_past true image host = refl
start_past false image host = refl

module _ (told : HeldFile → Told) (old new : ℕ) (again : Bool) (host : Host) (ask : Ask) where
  abbrev start : Host
  start = start_host again ask.image host

  abbrev cut : List (List (List ℕ))
  cut = cut_of again ask.image host

  attaches_past : (result : Result Attach PortErr) → Attaches told old new again host ask result → past_after start result ≡ start.past
  attaches_past result (base, is_base, inl (place, at, wants)) =
      fit_past start (BodyWants told old new start cut base ask place) (unfit again host ask.image) result (body_past start cut base ask result told old new place) wants
  attaches_past result (base, is_base, inr (none, is)) = ap (past_after start) is

  attaches_body_past : (body : Body) (tree : Entries HeldFile) (lines : List ℕ) (result : Result Attach PortErr) → AttachesBody again host ask body tree lines result
      → past_after start result ≡ start.past
  attaches_body_past body tree lines result wants =
      fit_past start (λ r. (base : Entries HeldFile) × IsBaseTree start base × UnitsWant start cut base ask body tree lines r) (unfit again host ask.image) result
      (λ from. units_past start cut from.0 ask result body tree lines from.2) wants

  extended_result : (result : Result Attach PortErr) → past_after start (as_extended result) ≡ past_after start result
  extended_result (Ok attach) = refl
  extended_result (Err e) = refl

  extensions_past : (base : Entries HeldFile) (images : List Image) (body : Body) (result : Result Attach PortExtErr)
      → ExtensionsWant again host ask told old new base images body result → past_after start result ≡ start.past
  extensions_past base images body result (inl (extensions, are, (tree, is_tree, inl (few, (given, attaches, is))))) =
      ap (past_after start) is ∙ extended_result given ∙ attaches_body_past body tree _ given attaches
  extensions_past base images body result (inl (extensions, are, (tree, is_tree, inr (many, is)))) = ap (past_after start) is
  extensions_past base images body result (inr (e, fails, is)) = ap (past_after start) is

  extended_past : (images : List Image) (result : Result Attach PortExtErr) → AttachesExtended told old new again host ask images result → past_after start result ≡ start.past
  extended_past images result (base, is_base, inl (body, reads, wants)) = extensions_past base images body result wants
  extended_past images result (base, is_base, inr (e, reads, is)) = ap (past_after start) is

-- so does the host with an image attached, with extensions or without
pub attached_past : (host : Host) (told : HeldFile → Told) (again : Bool) (ask : Ask) (extensions : List Image) (attach : Attach) → Attached host told again ask extensions attach
    → attach.plan.next.past ≡ host.past
attached_past host told again ask [] attach attaches = attaches_past told 0 0 again host ask (Ok attach) attaches ∙ start_past again ask.image host
attached_past host told again ask (extension ∷ extensions) attach attaches =
    extended_past told 0 0 again host ask (extension ∷ extensions) (Ok attach) attaches ∙ start_past again ask.image host
