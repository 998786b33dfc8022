-- What the commands `portable` want: by what inspecting, attaching and detaching answer, and that it is fit.
use Rattle.std.proofs.Common.{◌≡◌, ◌≢◌, ℕ, ◌<◌, ◌++◌, Bool, true, false, List, [], ◌∷◌, length, Some, Result, Ok, Err, inl, inr, refl, sym, ap, subst, arith}
use Rattle.std.specs.Prelude.{IfErr, IfOk}
use Rattle.std.specs.FinMap.{FinMap}
use Rattle.std.specs.List.{AllByRecursion}
use Rattle.ext_lines.specs.ByteOrder.{bytes_cmp}
use Rattle.ext_text.specs.declared.which.Which.TheVariants as limits
use Rattle.ext_tree.specs.Tree.{Entries}
use Rattle.ext_host.specs.Held.{HeldFile}
use Rattle.ext_host.specs.Planning.{IsBaseTree, IsPlannedHost}
use Rattle.ext_host.specs.Shelf.{Told}
use Rattle.ext_host.specs.Valid.{IsValidHost}
use Rattle.ext_host.specs.declared.host.Host.{Host}
use Rattle.ext_host.specs.declared.shelf.ShelfErr.{ShelfErr}
use Rattle.ext_units.specs.Inspecting.{Inspects}
use Rattle.ext_units.specs.declared.errors.InspectErr.{InspectErr}
use Rattle.ext_units.specs.declared.errors.InspectErr.TheVariants as inspecting
use Rattle.ext_units.specs.declared.image.Image.{Image}
use Rattle.ext_units.specs.declared.image.Image.TheVariants.{Named, At}
use Rattle.ext_attached.specs.declared.going.By.TheVariants.{Name}
use Rattle.ext_attached.proofs.ForCallers.{detached_is_planned}
use Rattle.ext_added.specs.declared.ask.Ask.{Ask}
use Rattle.ext_port.specs.Errors.{port_err_of_body}
use Rattle.ext_port.specs.Files.{FileFails, IsAttachFile, IsInspectFile}
use Rattle.ext_port.specs.Given.{IsAsked}
use Rattle.ext_port.specs.Starting.{start_host}
use Rattle.ext_port.specs.Wants.{Attaches, BarMemory}
use Rattle.ext_port.specs.declared.attaching.Attach.{Attach}
use Rattle.ext_port.specs.declared.errors.PortErr.{PortErr}
use Rattle.ext_port.specs.declared.errors.PortErr.TheVariants as attaching
use Rattle.ext_port.proofs.ForCallers.{attach_not_given, attaches_counts, inspect_not_given}
use Rattle.ext_portext.specs.Errors.{portext_err_of_port}
use Rattle.ext_portext.specs.Extensions.{ExtensionFails, FirstFails}
use Rattle.ext_portext.specs.Files.{IsExtendedFile}
use Rattle.ext_portext.specs.Laws.{IsUncountedExtended}
use Rattle.ext_portext.specs.Wants.{AttachesExtended, UnlessMemory, as_extended}
use Rattle.ext_portext.specs.declared.errors.PortExtErr.{PortExtErr}
use Rattle.ext_portext.specs.declared.errors.PortExtErr.TheVariants as extending
use Rattle.ext_portext.proofs.ForCallers.{extended_counts, extended_not_given}
use Rattle.ext_cmd.specs.Portable.{AreAttachWords, IsImageOfWords, IsOption, ask_of, extensions_among, extensions_of, options_of}
use Rattle.ext_cmd.specs.declared.portable.AttachOption.{AttachOption}
use Rattle.ext_cmd.specs.declared.portable.AttachOption.TheVariants.{Runtime, Profile, Copy, Extension}
use Rattle.ext_cmd.specs.declared.portable.AttachWords.{AttachWords}
use Rattle.ext_cmd.specs.declared.portable.PortCommand.{PortCommand}
use Rattle.ext_cmd.specs.declared.portable.PortCommand.TheVariants as commands
use Rattle.ext_cmd.specs.declared.refusal.Refusal.{Refusal}
use Rattle.ext_cmd.specs.declared.refusal.Refusal.TheVariants as refusals
use Rattle.ext_intents.specs.Causes.{IsNotGiven, ViewCause}
use Rattle.ext_intents.specs.Intents.{IsAnswerOrRefusal, IsFit}
use Rattle.ext_intents.specs.Portable.{AskWants, DetachWants, InspectWants, IsAskFile, NotExtended, PortWants, TellsOfList, attached_intent, not_attached, not_inspected}
use Rattle.ext_intents.specs.declared.intent.Intent.{Intent}
use Rattle.ext_intents.specs.declared.intent.Intent.TheVariants.{Refuses}
use Rattle.ext_intents.specs.declared.plan_err.PlanErr.{PlanErr}
use Rattle.ext_intents.specs.declared.plan_err.PlanErr.TheVariants as plan_errors
use Rattle.ext_intents.proofs.PastLemmas.{attached_past}
use Rattle.ext_intents.proofs.UpdatingLemmas.{past_fits}

-- what is asked for

-- the path of an image isn't the root
pub image_asked : (image : Image) → IsImageOfWords image → IsAsked image
image_asked (Named name) is = tt
image_asked (At path) is = is.below_root

options_asked : (options : List AttachOption) → AllByRecursion IsOption options → AllByRecursion IsAsked (extensions_among options)
options_asked [] all = tt
options_asked (Runtime ∷ options) all = options_asked options all.1
options_asked (Profile name ∷ options) all = options_asked options all.1
options_asked (Copy mode ∷ options) all = options_asked options all.1
options_asked (Extension image ∷ options) all = (image_asked image all.0, options_asked options all.1)

-- nor that of an extension
pub extensions_asked : (words : AttachWords) → AreAttachWords words → AllByRecursion IsAsked (extensions_of words)
extensions_asked words are = options_asked (options_of words) are.options.each

-- equal errors in a result
same_failure : (a b : PlanErr) → ◌≡◌ {A = Result Refusal PlanErr} (Err a) (Err b) → a ≡ b
same_failure a b same = cc

same_error : (a b : PortExtErr) → ◌≡◌ {A = Result Attach PortExtErr} (Err a) (Err b) → a ≡ b
same_error a b same = cc

longer_list : {X : Type 0} (before : List X) (x : X) (after : List X) → length before < length (before ++ x ∷ after)
longer_list [] x after = omega arith
longer_list (y ∷ before) x after = let longer = longer_list before x after in omega arith

-- a file that was not given is told by the crate that reads it
not_given : (IsFile : HeldFile → Type 0) (host : Host) (told : HeldFile → Told) (old new : ℕ) (e : ShelfErr) → FileFails IsFile host told old new e → IsNotGiven IsFile host told old new e
not_given IsFile host told old new e fails = record { held = fails.held; is_read = fails.is_read; file = fails.file; cause = fails.cause }

-- `inspect`

module _ (host : Host) (told : HeldFile → Told) (old new : ℕ) (base : Entries HeldFile) (is : IsBaseTree host base) (image : Image) (prefixes : List (List ℕ)) where
  pub inspected_none : (e : InspectErr) → Inspects told old new base host.arch image prefixes (Err e) → IfOk (not_inspected e) (λ refusal. InspectWants host told image prefixes (Refuses refusal))
  inspected_none inspecting.OutOfMemory fails = tt
  inspected_none inspecting.NoSuchImage fails = (base, is, inr (inspecting.NoSuchImage, refusals.NoSuchImage, fails, refl, refl))
  inspected_none inspecting.NotPortable fails = (base, is, inr (inspecting.NotPortable, refusals.NotPortable, fails, refl, refl))
  inspected_none (inspecting.BadRelease line) fails = (base, is, inr (inspecting.BadRelease line, refusals.BadRelease line, fails, refl, refl))
  inspected_none (inspecting.PrefixForbidden prefix) fails = (base, is, inr (inspecting.PrefixForbidden prefix, refusals.PrefixForbidden prefix, fails, refl, refl))
  inspected_none inspecting.NoUnits fails = (base, is, inr (inspecting.NoUnits, refusals.NoUnits, fails, refl, refl))
  inspected_none (inspecting.Shelf e) fails = tt

  pub inspected_cause : (e : InspectErr) → Inspects told old new base host.arch image prefixes (Err e) → IfErr (not_inspected e) (ViewCause (IsInspectFile host image) host told old new)
  inspected_cause inspecting.OutOfMemory fails = tt
  inspected_cause inspecting.NoSuchImage fails = tt
  inspected_cause inspecting.NotPortable fails = tt
  inspected_cause (inspecting.BadRelease line) fails = tt
  inspected_cause (inspecting.PrefixForbidden prefix) fails = tt
  inspected_cause inspecting.NoUnits fails = tt
  inspected_cause (inspecting.Shelf e) fails = not_given (IsInspectFile host image) host told old new e (inspect_not_given told old new host base image prefixes e is fails)

-- `attach` and `reattach`

module _ (host : Host) (told : HeldFile → Told) (old new : ℕ) (again : Bool) (ask : Ask) where
  -- without extensions
  pub attached_wants : (attach : Attach) → Attaches told old new again host ask (Ok attach) → IsPlannedHost host attach.plan.next → AskWants host told again ask [] (attached_intent attach)
  attached_wants attach gives planned = inl (attach, attaches_counts told old new again host ask (Ok attach) tt gives, planned, refl)

  pub attached_none : (e : PortErr) → BarMemory (Attaches told old new again host ask) (Err e) → IfOk (not_attached e) (λ refusal. AskWants host told again ask [] (Refuses refusal))
  attached_none attaching.OutOfMemory fails = tt
  attached_none attaching.NoSuchImage fails = inr (refusals.NoSuchImage, (attaching.NoSuchImage, attaches_counts told old new again host ask (Err attaching.NoSuchImage) tt fails, refl), refl)
  attached_none attaching.AlreadyAttached fails = inr (refusals.AlreadyAttached, (attaching.AlreadyAttached, attaches_counts told old new again host ask (Err attaching.AlreadyAttached) tt fails, refl), refl)
  attached_none attaching.NotAttached fails = inr (refusals.NotAttached, (attaching.NotAttached, attaches_counts told old new again host ask (Err attaching.NotAttached) tt fails, refl), refl)
  attached_none attaching.NotPortable fails = inr (refusals.NotPortable, (attaching.NotPortable, attaches_counts told old new again host ask (Err attaching.NotPortable) tt fails, refl), refl)
  attached_none (attaching.BadRelease line) fails = inr (refusals.BadRelease line, (attaching.BadRelease line, attaches_counts told old new again host ask (Err (attaching.BadRelease line)) tt fails, refl), refl)
  attached_none (attaching.PrefixForbidden prefix) fails = inr (refusals.PrefixForbidden prefix, (attaching.PrefixForbidden prefix, attaches_counts told old new again host ask (Err (attaching.PrefixForbidden prefix)) tt fails, refl), refl)
  attached_none attaching.NoUnits fails = inr (refusals.NoUnits, (attaching.NoUnits, attaches_counts told old new again host ask (Err attaching.NoUnits) tt fails, refl), refl)
  attached_none attaching.NoProfile fails = inr (refusals.NoProfile, (attaching.NoProfile, attaches_counts told old new again host ask (Err attaching.NoProfile) tt fails, refl), refl)
  attached_none (attaching.ReadOnly path) fails = inr (refusals.ReadOnly path, (attaching.ReadOnly path, attaches_counts told old new again host ask (Err (attaching.ReadOnly path)) tt fails, refl), refl)
  attached_none (attaching.UnitExists path) fails = inr (refusals.UnitExists path, (attaching.UnitExists path, attaches_counts told old new again host ask (Err (attaching.UnitExists path)) tt fails, refl), refl)
  attached_none (attaching.NotDirectory path) fails = inr (refusals.NotDirectory path, (attaching.NotDirectory path, attaches_counts told old new again host ask (Err (attaching.NotDirectory path)) tt fails, refl), refl)
  attached_none (attaching.Limit which) fails = inr (refusals.Limit which, (attaching.Limit which, attaches_counts told old new again host ask (Err (attaching.Limit which)) tt fails, refl), refl)
  attached_none (attaching.Shelf e) fails = tt

  pub attached_cause : (e : PortErr) → BarMemory (Attaches told old new again host ask) (Err e) → IfErr (not_attached e) (ViewCause (IsAskFile host again ask []) host told old new)
  attached_cause attaching.OutOfMemory fails = tt
  attached_cause attaching.NoSuchImage fails = tt
  attached_cause attaching.AlreadyAttached fails = tt
  attached_cause attaching.NotAttached fails = tt
  attached_cause attaching.NotPortable fails = tt
  attached_cause (attaching.BadRelease line) fails = tt
  attached_cause (attaching.PrefixForbidden prefix) fails = tt
  attached_cause attaching.NoUnits fails = tt
  attached_cause attaching.NoProfile fails = tt
  attached_cause (attaching.ReadOnly path) fails = tt
  attached_cause (attaching.UnitExists path) fails = tt
  attached_cause (attaching.NotDirectory path) fails = tt
  attached_cause (attaching.Limit which) fails = tt
  attached_cause (attaching.Shelf e) fails = not_given (IsAttachFile again host ask) host told old new e (attach_not_given told old new again host ask e fails)

  -- with extensions
  pub extended_wants : (extensions : List Image) (attach : Attach) → extensions ≢ [] → AttachesExtended told old new again host ask extensions (Ok attach) → IsPlannedHost host attach.plan.next
      → AskWants host told again ask extensions (attached_intent attach)
  extended_wants [] attach some gives planned = absurd (some refl)
  extended_wants (extension ∷ extensions) attach some gives planned = inl (attach, extended_counts told old new again host ask (extension ∷ extensions) (Ok attach) tt gives, planned, refl)

  -- a refusal tells of no error of the shelf
  port_refusal : (e : PortErr) (refusal : Refusal) → Ok refusal ≡ not_attached e → IsUncountedExtended (Err (extending.Port e))
  port_refusal attaching.OutOfMemory refusal is = tt
  port_refusal attaching.NoSuchImage refusal is = tt
  port_refusal attaching.AlreadyAttached refusal is = tt
  port_refusal attaching.NotAttached refusal is = tt
  port_refusal attaching.NotPortable refusal is = tt
  port_refusal (attaching.BadRelease line) refusal is = tt
  port_refusal (attaching.PrefixForbidden prefix) refusal is = tt
  port_refusal attaching.NoUnits refusal is = tt
  port_refusal attaching.NoProfile refusal is = tt
  port_refusal (attaching.ReadOnly path) refusal is = tt
  port_refusal (attaching.UnitExists path) refusal is = tt
  port_refusal (attaching.NotDirectory path) refusal is = tt
  port_refusal (attaching.Limit which) refusal is = tt
  port_refusal (attaching.Shelf e) refusal is = cc

  refused_uncounted : (extensions : List Image) (e : PortExtErr) (refusal : Refusal) → NotExtended extensions e (Ok refusal) → IsUncountedExtended (Err e)
  refused_uncounted extensions extending.OutOfMemory refusal is = tt
  refused_uncounted extensions (extending.Port e) refusal is = port_refusal e refusal is
  refused_uncounted extensions (extending.NoExtension at) refusal is = tt
  refused_uncounted extensions (extending.Extension at why) refusal is = tt
  refused_uncounted extensions (extending.Limit which) refusal is = tt

  gives_refused : (extensions : List Image) (e : PortExtErr) (refusal : Refusal) → NotExtended extensions e (Ok refusal) → UnlessMemory (AttachesExtended told old new again host ask extensions) (Err e)
      → AttachesExtended told old new again host ask extensions (Err e)
  gives_refused extensions extending.OutOfMemory refusal is gives = cc is
  gives_refused extensions (extending.Port e) refusal is gives = gives
  gives_refused extensions (extending.NoExtension at) refusal is gives = gives
  gives_refused extensions (extending.Extension at why) refusal is gives = gives
  gives_refused extensions (extending.Limit which) refusal is gives = gives

  pub extended_none : (extensions : List Image) (e : PortExtErr) (result : Result Refusal PlanErr) → extensions ≢ [] → UnlessMemory (AttachesExtended told old new again host ask extensions) (Err e)
      → NotExtended extensions e result → IfOk result (λ refusal. AskWants host told again ask extensions (Refuses refusal))
  extended_none extensions e (Err failed) some gives is = tt
  extended_none [] e (Ok refusal) some gives is = absurd (some refl)
  extended_none (extension ∷ extensions) e (Ok refusal) some gives is =
      let all = extension ∷ extensions in
      inr (
        refusal,
        (e, extended_counts told old new again host ask all (Err e) (refused_uncounted all e refusal is) (gives_refused all e refusal is gives), is),
        refl,
      )

  -- why nothing is planned
  port_cause : (extensions : List Image) (e : PortErr) (failed : PlanErr) → Err failed ≡ not_attached e → AttachesExtended told old new again host ask extensions (Err (extending.Port e))
      → ViewCause (IsExtendedFile again host ask extensions) host told old new failed
  port_cause extensions attaching.OutOfMemory failed is gives = subst (ViewCause (IsExtendedFile again host ask extensions) host told old new) (sym (same_failure failed plan_errors.OutOfMemory is)) tt
  port_cause extensions attaching.NoSuchImage failed is gives = cc is
  port_cause extensions attaching.AlreadyAttached failed is gives = cc is
  port_cause extensions attaching.NotAttached failed is gives = cc is
  port_cause extensions attaching.NotPortable failed is gives = cc is
  port_cause extensions (attaching.BadRelease line) failed is gives = cc is
  port_cause extensions (attaching.PrefixForbidden prefix) failed is gives = cc is
  port_cause extensions attaching.NoUnits failed is gives = cc is
  port_cause extensions attaching.NoProfile failed is gives = cc is
  port_cause extensions (attaching.ReadOnly path) failed is gives = cc is
  port_cause extensions (attaching.UnitExists path) failed is gives = cc is
  port_cause extensions (attaching.NotDirectory path) failed is gives = cc is
  port_cause extensions (attaching.Limit which) failed is gives = cc is
  port_cause extensions (attaching.Shelf e) failed is gives =
      subst (ViewCause (IsExtendedFile again host ask extensions) host told old new) (sym (same_failure failed (plan_errors.Shelf e) is))
      (not_given (IsExtendedFile again host ask extensions) host told old new e (extended_not_given told old new again host ask extensions e gives))

  failed_cause : (extensions : List Image) (e : PortExtErr) (failed : PlanErr) → NotExtended extensions e (Err failed) → UnlessMemory (AttachesExtended told old new again host ask extensions) (Err e)
      → ViewCause (IsExtendedFile again host ask extensions) host told old new failed
  failed_cause extensions extending.OutOfMemory failed is gives = subst (ViewCause (IsExtendedFile again host ask extensions) host told old new) (sym (same_failure failed plan_errors.OutOfMemory is)) tt
  failed_cause extensions (extending.Port e) failed is gives = port_cause extensions e failed is gives
  failed_cause extensions (extending.NoExtension at) failed (extension, there, is) gives = cc is
  failed_cause extensions (extending.Extension at why) failed (extension, there, is) gives = cc is
  failed_cause extensions (extending.Limit which) failed is gives = cc is

  pub extended_cause : (extensions : List Image) (e : PortExtErr) (result : Result Refusal PlanErr) → extensions ≢ [] → UnlessMemory (AttachesExtended told old new again host ask extensions) (Err e)
      → NotExtended extensions e result → IfErr result (ViewCause (IsAskFile host again ask extensions) host told old new)
  extended_cause extensions e (Ok refusal) some gives is = tt
  extended_cause [] e (Err failed) some gives is = absurd (some refl)
  extended_cause (extension ∷ extensions) e (Err failed) some gives is = failed_cause (extension ∷ extensions) e failed is gives

  -- an error tells of one of the extensions that were given
  port_tells : (extensions : List Image) (e : PortErr) → TellsOfList extensions (portext_err_of_port e)
  port_tells extensions attaching.OutOfMemory = tt
  port_tells extensions attaching.NoSuchImage = tt
  port_tells extensions attaching.AlreadyAttached = tt
  port_tells extensions attaching.NotAttached = tt
  port_tells extensions attaching.NotPortable = tt
  port_tells extensions (attaching.BadRelease line) = tt
  port_tells extensions (attaching.PrefixForbidden prefix) = tt
  port_tells extensions attaching.NoUnits = tt
  port_tells extensions attaching.NoProfile = tt
  port_tells extensions (attaching.ReadOnly path) = tt
  port_tells extensions (attaching.UnitExists path) = tt
  port_tells extensions (attaching.NotDirectory path) = tt
  port_tells extensions (attaching.Limit which) = tt
  port_tells extensions (attaching.Shelf e) = tt

  given_tells : (extensions : List Image) (given : Result Attach PortErr) (e : PortExtErr) → Err e ≡ as_extended given → TellsOfList extensions e
  given_tells extensions (Ok attach) e is = cc is
  given_tells extensions (Err failed) e is = subst (TellsOfList extensions) (sym (same_error e (portext_err_of_port failed) is)) (port_tells extensions failed)

  fails_tells : (start : Host) (base : Entries HeldFile) (release : FinMap bytes_cmp (List ℕ)) (extensions : List Image) (at : ℕ) (image : Image) (e : PortExtErr) → at < length extensions
      → ExtensionFails told start base release old new at image e → TellsOfList extensions e
  fails_tells start base release extensions at image extending.OutOfMemory within fails = tt
  fails_tells start base release extensions at image (extending.Port e) within fails = tt
  fails_tells start base release extensions at image (extending.NoExtension index) within fails = subst (λ n. n < length extensions) (sym fails.0) within
  fails_tells start base release extensions at image (extending.Extension index why) within fails = subst (λ n. n < length extensions) (sym fails.0) within
  fails_tells start base release extensions at image (extending.Limit which) within fails = tt

  first_tells : (start : Host) (base : Entries HeldFile) (release : FinMap bytes_cmp (List ℕ)) (extensions : List Image) (e : PortExtErr) → FirstFails told start base release old new extensions e → TellsOfList extensions e
  first_tells start base release extensions e first =
      let longer : length first.before < length extensions = subst (λ images. length first.before < length images) (sym first.among) (longer_list first.before first.image first.after) in
      fails_tells start base release extensions (length first.before) first.image e longer first.fails

  attaches_tells : (extensions : List Image) (e : PortExtErr) → AttachesExtended told old new again host ask extensions (Err e) → TellsOfList extensions e
  attaches_tells extensions e (base, is_base, inl (body, reads, inl (fitting, are, (tree, is_tree, inl (few, (given, attaches, is)))))) = given_tells extensions given e is
  attaches_tells extensions e (base, is_base, inl (body, reads, inl (fitting, are, (tree, is_tree, inr (many, is))))) =
      subst (TellsOfList extensions) (sym (same_error e (extending.Limit limits.Entries) is)) tt
  attaches_tells extensions e (base, is_base, inl (body, reads, inr (failed, fails, is))) =
      subst (TellsOfList extensions) (sym (same_error e failed is)) (first_tells (start_host again ask.image host) base body.release extensions failed fails)
  attaches_tells extensions e (base, is_base, inr (failed, reads, is)) =
      subst (TellsOfList extensions) (sym (same_error e (portext_err_of_port (port_err_of_body failed)) is)) (port_tells extensions (port_err_of_body failed))

  pub tells_of_list : (extensions : List Image) (e : PortExtErr) → UnlessMemory (AttachesExtended told old new again host ask extensions) (Err e) → TellsOfList extensions e
  tells_of_list extensions extending.OutOfMemory gives = tt
  tells_of_list extensions (extending.Port e) gives = tt
  tells_of_list extensions (extending.NoExtension at) gives = attaches_tells extensions (extending.NoExtension at) gives
  tells_of_list extensions (extending.Extension at why) gives = attaches_tells extensions (extending.Extension at why) gives
  tells_of_list extensions (extending.Limit which) gives = tt

-- what is wanted is fit

fit_of : (coming : ℕ) (host : Host) (a b : Intent) → b ≡ a → IsFit coming (Some host) a → IsFit coming (Some host) b
fit_of coming host a b is fit = subst (IsFit coming (Some host)) (sym is) fit

attach_fits : (coming : ℕ) (host : Host) (told : HeldFile → Told) (again : Bool) (ask : Ask) (extensions : List Image) (intent : Intent) → AskWants host told again ask extensions intent → IsFit coming (Some host) intent
attach_fits coming host told again ask extensions intent (inl (attach, attached, planned, is)) =
    fit_of coming host _ intent is (past_fits coming host attach.plan.next planned (attached_past host told again ask extensions attach attached))
attach_fits coming host told again ask extensions intent (inr (refusal, none, is)) = fit_of coming host _ intent is tt

detach_fits : (coming : ℕ) (host : Host) (name : List ℕ) (intent : Intent) → IsValidHost host → DetachWants host name intent → IsFit coming (Some host) intent
detach_fits coming host name intent valid (inl (plan, (attached, unlocked, same), is)) =
    fit_of coming host _ intent is
    (past_fits coming host plan.next (subst (IsPlannedHost host) (sym same) (detached_is_planned Name name host valid)) (ap (λ (h : Host). h.past) same))
detach_fits coming host name intent valid (inr (error, refusal, gives, refused, is)) = fit_of coming host _ intent is tt

pub port_fits : (coming : ℕ) (host : Host) (told : HeldFile → Told) (command : PortCommand) (intent : Intent) → IsValidHost host → PortWants host told command intent → IsFit coming (Some host) intent
port_fits coming host told commands.List intent valid (base, is_base, (items, are, is)) = fit_of coming host _ intent is tt
port_fits coming host told (commands.Inspect image prefixes) intent valid (base, is_base, inl (inspect, gives, is)) = fit_of coming host _ intent is tt
port_fits coming host told (commands.Inspect image prefixes) intent valid (base, is_base, inr (error, refusal, gives, refused, is)) = fit_of coming host _ intent is tt
port_fits coming host told (commands.IsAttached name) intent valid is = fit_of coming host _ intent is tt
port_fits coming host told (commands.Attach words) intent valid wants = attach_fits coming host told false (ask_of words) (extensions_of words) intent wants
port_fits coming host told (commands.Detach name) intent valid wants = detach_fits coming host name intent valid wants
port_fits coming host told (commands.Reattach words) intent valid wants = attach_fits coming host told true (ask_of words) (extensions_of words) intent wants

-- the commands that want no other host
abbrev pub IsReplyingPort : PortCommand → Type 0
IsReplyingPort commands.List = Unit {0}
IsReplyingPort (commands.Inspect image prefixes) = Unit {0}
IsReplyingPort (commands.IsAttached name) = Unit {0}
IsReplyingPort (commands.Attach words) = ⊥
IsReplyingPort (commands.Detach name) = ⊥
IsReplyingPort (commands.Reattach words) = ⊥

reply_of : (a b : Intent) → b ≡ a → IsAnswerOrRefusal a → IsAnswerOrRefusal b
reply_of a b is replies = subst IsAnswerOrRefusal (sym is) replies

pub port_replies : (host : Host) (told : HeldFile → Told) (command : PortCommand) (intent : Intent) → IsReplyingPort command → PortWants host told command intent → IsAnswerOrRefusal intent
port_replies host told commands.List intent replying (base, is_base, (items, are, is)) = reply_of _ intent is tt
port_replies host told (commands.Inspect image prefixes) intent replying (base, is_base, inl (inspect, gives, is)) = reply_of _ intent is tt
port_replies host told (commands.Inspect image prefixes) intent replying (base, is_base, inr (error, refusal, gives, refused, is)) = reply_of _ intent is tt
port_replies host told (commands.IsAttached name) intent replying is = reply_of _ intent is tt
port_replies host told (commands.Attach words) intent replying wants = absurd replying
port_replies host told (commands.Detach name) intent replying wants = absurd replying
port_replies host told (commands.Reattach words) intent replying wants = absurd replying
