-- A command `portable` wants one thing, where it is told of each file what it has.
use Rattle.std.proofs.Common.{◌≡◌, ℕ, Bool, true, false, List, [], ◌∷◌, Some, Result, Ok, Err, inl, inr, sym, ap, ◌∙◌, subst}
use Rattle.std.specs.Prelude.{◌⊎◌, map}
use Rattle.std.proofs.lemmas.Bool.{false≢true, true≢false}
use Rattle.ext_text.specs.declared.class.Class.TheVariants as classes
use Rattle.ext_tree.specs.Tree.{Entries}
use Rattle.ext_host.specs.Held.{HeldFile}
use Rattle.ext_host.specs.Planning.{content_size}
use Rattle.ext_host.specs.ReadOnly.{is_read_only}
use Rattle.ext_host.specs.Shelf.{Told}
use Rattle.ext_host.specs.declared.host.Host.{Host}
use Rattle.ext_host.specs.declared.host.Plan.{Plan}
use Rattle.ext_find.specs.Found.{AreFound}
use Rattle.ext_find.specs.Laws.{OneFound}
use Rattle.ext_view.specs.Laws.{TellsAll}
use Rattle.ext_view.proofs.ForCallers.{one_base, one_given}
use Rattle.ext_units.specs.Inspecting.{Inspects}
use Rattle.ext_units.specs.Laws.{GivesOneText, IsOfService, OneInspect}
use Rattle.ext_units.specs.declared.errors.InspectErr.{InspectErr}
use Rattle.ext_units.specs.declared.errors.InspectErr.TheVariants as inspecting
use Rattle.ext_units.specs.declared.image.Image.{Image}
use Rattle.ext_units.specs.declared.inspected.Inspect.{Inspect}
use Rattle.ext_attached.specs.Detaching.{Detaches}
use Rattle.ext_attached.specs.Going.{cut_paths}
use Rattle.ext_attached.specs.declared.errors.DetachErr.{DetachErr}
use Rattle.ext_attached.specs.declared.errors.DetachErr.TheVariants as detaching
use Rattle.ext_attached.specs.declared.going.By.TheVariants.{Name}
use Rattle.ext_attached.proofs.ForCallers.{one_least}
use Rattle.ext_added.specs.declared.ask.Ask.{Ask}
use Rattle.ext_port.specs.Laws.{IsOfAttach, OneAttach}
use Rattle.ext_port.specs.declared.attaching.Attach.{Attach}
use Rattle.ext_port.specs.declared.errors.PortErr.{PortErr}
use Rattle.ext_port.specs.declared.errors.PortErr.TheVariants as attaching
use Rattle.ext_portext.specs.Laws.{IsOfExtended, OneExtendedAttach}
use Rattle.ext_portext.specs.declared.errors.PortExtErr.{PortExtErr}
use Rattle.ext_portext.specs.declared.errors.PortExtErr.TheVariants as extending
use Rattle.ext_cmd.specs.Portable.{ask_of, extensions_of}
use Rattle.ext_cmd.specs.declared.answer.Answer.TheVariants as answers
use Rattle.ext_cmd.specs.declared.portable.PortCommand.{PortCommand}
use Rattle.ext_cmd.specs.declared.portable.PortCommand.TheVariants as commands
use Rattle.ext_cmd.specs.declared.refusal.Refusal.{Refusal}
use Rattle.ext_cmd.specs.declared.refusal.Refusal.TheVariants as refusals
use Rattle.ext_intents.specs.Portable.{AskWants, DetachWants, InspectWants, NotExtended, PortWants, ServicesWants, attached_intent, not_attached, not_detached, not_inspected, service_item}
use Rattle.ext_intents.specs.declared.intent.Intent.{Intent}
use Rattle.ext_intents.specs.declared.intent.Intent.TheVariants.{Changes, Answers, Refuses}
use Rattle.ext_intents.specs.declared.plan_err.PlanErr.{PlanErr}

-- the laws of portable services that it rests on
pub record PortLaws : Type 0 where
  pub one_found : OneFound content_size
  pub one_inspect : OneInspect
  pub one_attach : OneAttach
  pub one_extended : OneExtendedAttach

-- equal values in a result
ok_same : {X E : Type 0} (a b : X) → ◌≡◌ {A = Result X E} (Ok a) (Ok b) → a ≡ b
ok_same a b same = cc

err_same : {X E : Type 0} (a b : E) → ◌≡◌ {A = Result X E} (Err a) (Err b) → a ≡ b
err_same a b same = cc

some_same : {X : Type 0} (a b : X) → Some a ≡ Some b → a ≡ b
some_same a b same = cc

refusal_same : (a b : Refusal) → ◌≡◌ {A = Result Refusal PlanErr} (Ok a) (Ok b) → a ≡ b
refusal_same a b same = cc

-- what is told of an error as a refusal is no want of memory, and no error of the shelf
inspect_told : (e : InspectErr) (refusal : Refusal) → not_inspected e ≡ Ok refusal → IsOfService (Err e)
inspect_told inspecting.OutOfMemory refusal is = cc
inspect_told inspecting.NoSuchImage refusal is = tt
inspect_told inspecting.NotPortable refusal is = tt
inspect_told (inspecting.BadRelease line) refusal is = tt
inspect_told (inspecting.PrefixForbidden prefix) refusal is = tt
inspect_told inspecting.NoUnits refusal is = tt
inspect_told (inspecting.Shelf e) refusal is = cc

attach_told : (e : PortErr) (refusal : Refusal) → not_attached e ≡ Ok refusal → IsOfAttach (Err e)
attach_told attaching.OutOfMemory refusal is = cc
attach_told attaching.NoSuchImage refusal is = tt
attach_told attaching.AlreadyAttached refusal is = tt
attach_told attaching.NotAttached refusal is = tt
attach_told attaching.NotPortable refusal is = tt
attach_told (attaching.BadRelease line) refusal is = tt
attach_told (attaching.PrefixForbidden prefix) refusal is = tt
attach_told attaching.NoUnits refusal is = tt
attach_told attaching.NoProfile refusal is = tt
attach_told (attaching.ReadOnly path) refusal is = tt
attach_told (attaching.UnitExists path) refusal is = tt
attach_told (attaching.NotDirectory path) refusal is = tt
attach_told (attaching.Limit which) refusal is = tt
attach_told (attaching.Shelf e) refusal is = cc

port_told : (e : PortErr) (refusal : Refusal) → not_attached e ≡ Ok refusal → IsOfExtended (Err (extending.Port e))
port_told attaching.OutOfMemory refusal is = cc
port_told attaching.NoSuchImage refusal is = tt
port_told attaching.AlreadyAttached refusal is = tt
port_told attaching.NotAttached refusal is = tt
port_told attaching.NotPortable refusal is = tt
port_told (attaching.BadRelease line) refusal is = tt
port_told (attaching.PrefixForbidden prefix) refusal is = tt
port_told attaching.NoUnits refusal is = tt
port_told attaching.NoProfile refusal is = tt
port_told (attaching.ReadOnly path) refusal is = tt
port_told (attaching.UnitExists path) refusal is = tt
port_told (attaching.NotDirectory path) refusal is = tt
port_told (attaching.Limit which) refusal is = tt
port_told (attaching.Shelf e) refusal is = cc

extended_told : (extensions : List Image) (e : PortExtErr) (refusal : Refusal) → NotExtended extensions e (Ok refusal) → IsOfExtended (Err e)
extended_told extensions extending.OutOfMemory refusal is = cc
extended_told extensions (extending.Port e) refusal is = port_told e refusal (sym is)
extended_told extensions (extending.NoExtension at) refusal is = tt
extended_told extensions (extending.Extension at why) refusal is = tt
extended_told extensions (extending.Limit which) refusal is = tt

-- an error with extensions is told by one refusal
one_told : (extensions : List Image) (e : PortExtErr) (x y : Refusal) → NotExtended extensions e (Ok x) → NotExtended extensions e (Ok y) → x ≡ y
one_told extensions extending.OutOfMemory x y is also = cc is
one_told extensions (extending.Port e) x y is also = refusal_same x y (is ∙ sym also)
one_told extensions (extending.NoExtension at) x y (p, there, is) (q, here, also) =
    refusal_same x (refusals.NoExtension p) is ∙ ap (λ extension. refusals.NoExtension extension) (some_same p q (sym there ∙ here))
    ∙ sym (refusal_same y (refusals.NoExtension q) also)
one_told extensions (extending.Extension at why) x y (p, there, is) (q, here, also) =
    refusal_same x (refusals.Extension p why) is ∙ ap (λ extension. refusals.Extension extension why) (some_same p q (sym there ∙ here))
    ∙ sym (refusal_same y (refusals.Extension q why) also)
one_told extensions (extending.Limit which) x y is also = refusal_same x y (is ∙ sym also)

-- `detach`

module _ (host : Host) (name : List ℕ) where
  detached_or_not : (plan : Plan) (e : DetachErr) (refusal : Refusal) → Detaches host name (Ok plan) → Detaches host name (Err e) → not_detached e ≡ Ok refusal → ⊥
  detached_or_not plan detaching.OutOfMemory refusal is not refused = cc refused
  detached_or_not plan detaching.NotAttached refusal is not refused = true≢false (sym is.0 ∙ not)
  detached_or_not plan (detaching.ReadOnly path) refusal is not refused = false≢true (sym (is.1 path not.1.among) ∙ not.1.passes)

  one_why : (e f : DetachErr) (x y : Refusal) → Detaches host name (Err e) → not_detached e ≡ Ok x → Detaches host name (Err f) → not_detached f ≡ Ok y → x ≡ y
  one_why detaching.OutOfMemory f x y not is nor also = cc is
  one_why e detaching.OutOfMemory x y not is nor also = cc also
  one_why detaching.NotAttached detaching.NotAttached x y not is nor also = refusal_same x y (sym is ∙ also)
  one_why detaching.NotAttached (detaching.ReadOnly q) x y not is nor also = absurd (true≢false (sym nor.0 ∙ not))
  one_why (detaching.ReadOnly p) detaching.NotAttached x y not is nor also = absurd (true≢false (sym not.0 ∙ nor))
  one_why (detaching.ReadOnly p) (detaching.ReadOnly q) x y not is nor also =
      let same = some_same p q (one_least (is_read_only host) (cut_paths Name name host) (Some p) (Some q) not.1 nor.1) in
      refusal_same x y (sym is ∙ ap (λ path. not_detached (detaching.ReadOnly path)) same ∙ also)

  detach_once : (a b : Intent) → DetachWants host name a → DetachWants host name b → a ≡ b
  detach_once a b (inl (x, is, wants)) (inl (y, also, same)) = wants ∙ ap (λ next. Changes next answers.Detached) (is.2 ∙ sym also.2) ∙ sym same
  detach_once a b (inl (x, is, wants)) (inr (e, refusal, not, refused, same)) = absurd (detached_or_not x e refusal is not refused)
  detach_once a b (inr (e, refusal, not, refused, same)) (inl (y, also, wants)) = absurd (detached_or_not y e refusal also not refused)
  detach_once a b (inr (e, x, not, refused, wants)) (inr (f, y, nor, told, same)) =
      wants ∙ ap (λ refusal. Refuses refusal) (one_why e f x y not refused nor told) ∙ sym same

-- `list`

services_once : OneFound content_size → (host : Host) (a b : Intent) → ServicesWants host a → ServicesWants host b → a ≡ b
services_once one_found host a b (base, is, (items, are, wants)) (other, also, (others, found, same)) =
    let there = subst (λ es. AreFound content_size es classes.Portable host.arch [] others) (one_base host other base also is) found in
    wants ∙ ap (λ list. Answers (answers.Services (map (service_item host.attached) list))) (one_found base classes.Portable host.arch [] items others are there)
    ∙ sym same

module _ (laws : PortLaws) (host : Host) (told : HeldFile → Told) (tells : TellsAll told) where
  gives_one : GivesOneText told
  gives_one held a b first second = one_given (told held) held a b (tells held) first second

  -- `inspect`

  module _ (base : Entries HeldFile) (image : Image) (prefixes : List (List ℕ)) where
    one_inspection : (a b : Result Inspect InspectErr) → IsOfService a → IsOfService b → Inspects told 0 0 base host.arch image prefixes a → Inspects told 0 0 base host.arch image prefixes b → a ≡ b
    one_inspection a b of_a of_b x y = laws.one_inspect told 0 0 0 0 base host.arch image prefixes a b gives_one of_a of_b x y

    -- what is wanted by what inspecting gives
    abbrev ByInspecting : Intent → Type 0
    ByInspecting intent =
        ((inspect : Inspect) × Inspects told 0 0 base host.arch image prefixes (Ok inspect) × (intent ≡ Answers (answers.Inspected inspect)))
        ⊎ ((error : InspectErr) × (refusal : Refusal) × Inspects told 0 0 base host.arch image prefixes (Err error)
        × (not_inspected error ≡ Ok refusal) × (intent ≡ Refuses refusal))

    inspected_once : (a b : Intent) → ByInspecting a → ByInspecting b → a ≡ b
    inspected_once a b (inl (x, is, wants)) (inl (y, also, same)) =
        wants ∙ ap (λ inspect. Answers (answers.Inspected inspect)) (ok_same x y (one_inspection (Ok x) (Ok y) tt tt is also)) ∙ sym same
    inspected_once a b (inl (x, is, wants)) (inr (e, refusal, not, refused, same)) =
        let apart = one_inspection (Ok x) (Err e) tt (inspect_told e refusal refused) is not in cc apart
    inspected_once a b (inr (e, refusal, not, refused, same)) (inl (y, also, wants)) =
        let apart = one_inspection (Ok y) (Err e) tt (inspect_told e refusal refused) also not in cc apart
    inspected_once a b (inr (e, x, not, is, wants)) (inr (f, y, nor, also, same)) =
        let error = err_same e f (one_inspection (Err e) (Err f) (inspect_told e x is) (inspect_told f y also) not nor) in
        wants ∙ ap (λ refusal. Refuses refusal) (refusal_same x y (sym is ∙ ap not_inspected error ∙ also)) ∙ sym same

  inspect_once : (image : Image) (prefixes : List (List ℕ)) (a b : Intent) → InspectWants host told image prefixes a → InspectWants host told image prefixes b → a ≡ b
  inspect_once image prefixes a b (base, is, x) (other, also, y) =
      inspected_once base image prefixes a b x (subst (λ es. ByInspecting es image prefixes b) (one_base host other base also is) y)

  -- `attach` and `reattach`

  module _ (again : Bool) (ask : Ask) where
    alone_once : (a b : Intent) → AskWants host told again ask [] a → AskWants host told again ask [] b → a ≡ b
    alone_once a b (inl (x, is, planned, wants)) (inl (y, also, next, same)) =
        wants ∙ ap attached_intent (ok_same x y (laws.one_attach told 0 0 0 0 again host ask (Ok x) (Ok y) gives_one tt tt is also)) ∙ sym same
    alone_once a b (inl (x, is, planned, wants)) (inr (refusal, (e, not, refused), same)) =
        let apart = laws.one_attach told 0 0 0 0 again host ask (Ok x) (Err e) gives_one tt (attach_told e refusal refused) is not in cc apart
    alone_once a b (inr (refusal, (e, not, refused), same)) (inl (y, also, planned, wants)) =
        let apart = laws.one_attach told 0 0 0 0 again host ask (Ok y) (Err e) gives_one tt (attach_told e refusal refused) also not in cc apart
    alone_once a b (inr (x, (e, not, is), wants)) (inr (y, (f, nor, also), same)) =
        let error = err_same e f (laws.one_attach told 0 0 0 0 again host ask (Err e) (Err f) gives_one (attach_told e x is) (attach_told f y also) not nor) in
        wants ∙ ap (λ refusal. Refuses refusal) (refusal_same x y (sym is ∙ ap not_attached error ∙ also)) ∙ sym same

    with_once : (first : Image) (rest : List Image) (a b : Intent) → AskWants host told again ask (first ∷ rest) a → AskWants host told again ask (first ∷ rest) b → a ≡ b
    with_once first rest a b (inl (x, is, planned, wants)) (inl (y, also, next, same)) =
        wants ∙ ap attached_intent (ok_same x y (laws.one_extended told 0 0 0 0 again host ask (first ∷ rest) (Ok x) (Ok y) gives_one tt tt is also)) ∙ sym same
    with_once first rest a b (inl (x, is, planned, wants)) (inr (refusal, (e, not, refused), same)) =
        let apart = laws.one_extended told 0 0 0 0 again host ask (first ∷ rest) (Ok x) (Err e) gives_one tt (extended_told (first ∷ rest) e refusal refused) is not in cc apart
    with_once first rest a b (inr (refusal, (e, not, refused), same)) (inl (y, also, planned, wants)) =
        let apart = laws.one_extended told 0 0 0 0 again host ask (first ∷ rest) (Ok y) (Err e) gives_one tt (extended_told (first ∷ rest) e refusal refused) also not in cc apart
    with_once first rest a b (inr (x, (e, not, is), wants)) (inr (y, (f, nor, also), same)) =
        let all = first ∷ rest in
        let error = err_same e f (laws.one_extended told 0 0 0 0 again host ask all (Err e) (Err f) gives_one (extended_told all e x is) (extended_told all f y also) not nor) in
        wants ∙ ap (λ refusal. Refuses refusal) (one_told all f x y (subst (λ e. NotExtended all e (Ok x)) error is) also) ∙ sym same

    ask_once : (extensions : List Image) (a b : Intent) → AskWants host told again ask extensions a → AskWants host told again ask extensions b → a ≡ b
    ask_once [] a b x y = alone_once a b x y
    ask_once (first ∷ rest) a b x y = with_once first rest a b x y

  pub port_once : (command : PortCommand) (a b : Intent) → PortWants host told command a → PortWants host told command b → a ≡ b
  port_once commands.List a b x y = services_once laws.one_found host a b x y
  port_once (commands.Inspect image prefixes) a b x y = inspect_once image prefixes a b x y
  port_once (commands.IsAttached name) a b x y = x ∙ sym y
  port_once (commands.Attach words) a b x y = ask_once false (ask_of words) (extensions_of words) a b x y
  port_once (commands.Detach name) a b x y = detach_once host name a b x y
  port_once (commands.Reattach words) a b x y = ask_once true (ask_of words) (extensions_of words) a b x y
