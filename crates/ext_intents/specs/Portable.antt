-- The commands `portable`, after portablectl(1): the images of portable services that a host has and whether they are attached, what one
-- of them is, and the host with one attached, detached, or attached anew. The refusals, the first that holds, stand in the order of what
-- inspecting, attaching and detaching refuse, which is this project's own.
use Rattle.std.specs.Prelude.{◌≡◌, ◌⊎◌, ℕ, ◌<◌, Bool, true, false, List, [], ◌∷◌, length, map, Some, Result, Ok, Err, slice_get}
use Rattle.ext_text.specs.declared.class.Class.TheVariants as classes
use Rattle.ext_tree.specs.Tree.{Entries}
use Rattle.ext_host.specs.Held.{HeldFile}
use Rattle.ext_host.specs.Planning.{IsBaseTree, IsPlannedHost, content_size}
use Rattle.ext_host.specs.Shelf.{Told}
use Rattle.ext_host.specs.declared.attachment.Attachment.{Attachment}
use Rattle.ext_host.specs.declared.host.Host.{Host}
use Rattle.ext_host.specs.declared.host.Plan.{Plan}
use Rattle.ext_find.specs.Found.{AreFound}
use Rattle.ext_find.specs.declared.found.FoundItem.{FoundItem}
use Rattle.ext_find.specs.declared.found.FoundKind.{FoundKind}
use Rattle.ext_find.specs.declared.found.FoundKind.TheVariants as found
use Rattle.ext_units.specs.Inspecting.{Inspects}
use Rattle.ext_units.specs.declared.errors.InspectErr.{InspectErr}
use Rattle.ext_units.specs.declared.errors.InspectErr.TheVariants as inspecting
use Rattle.ext_units.specs.declared.image.Image.{Image}
use Rattle.ext_units.specs.declared.inspected.Inspect.{Inspect}
use Rattle.ext_attached.specs.Detaching.{Detaches}
use Rattle.ext_attached.specs.State.{state_of}
use Rattle.ext_attached.specs.declared.errors.DetachErr.{DetachErr}
use Rattle.ext_attached.specs.declared.errors.DetachErr.TheVariants as detaching
use Rattle.ext_attached.specs.declared.state.State.{State}
use Rattle.ext_added.specs.declared.ask.Ask.{Ask}
use Rattle.ext_port.specs.Files.{IsAttachFile, IsInspectFile}
use Rattle.ext_port.specs.Wants.{Attaches}
use Rattle.ext_port.specs.declared.attaching.Attach.{Attach}
use Rattle.ext_port.specs.declared.errors.PortErr.{PortErr}
use Rattle.ext_port.specs.declared.errors.PortErr.TheVariants as attaching
use Rattle.ext_portext.specs.Files.{IsExtendedFile}
use Rattle.ext_portext.specs.Wants.{AttachesExtended}
use Rattle.ext_portext.specs.declared.errors.PortExtErr.{PortExtErr}
use Rattle.ext_portext.specs.declared.errors.PortExtErr.TheVariants as extending
use Rattle.ext_cmd.specs.Portable.{ask_of, extensions_of}
use Rattle.ext_cmd.specs.declared.answer.Answer.TheVariants as answers
use Rattle.ext_cmd.specs.declared.answer.ServiceItem.{ServiceItem}
use Rattle.ext_cmd.specs.declared.answer.ServiceKind.{ServiceKind}
use Rattle.ext_cmd.specs.declared.answer.ServiceKind.TheVariants as services
use Rattle.ext_cmd.specs.declared.portable.AttachWords.{AttachWords}
use Rattle.ext_cmd.specs.declared.portable.PortCommand.{PortCommand}
use Rattle.ext_cmd.specs.declared.portable.PortCommand.TheVariants as commands
use Rattle.ext_cmd.specs.declared.refusal.Refusal.{Refusal}
use Rattle.ext_cmd.specs.declared.refusal.Refusal.TheVariants as refusals
use Rattle.ext_intents.specs.declared.intent.Intent.{Intent}
use Rattle.ext_intents.specs.declared.intent.Intent.TheVariants.{Changes, Answers, Refuses}
use Rattle.ext_intents.specs.declared.plan_err.PlanErr.{PlanErr}
use Rattle.ext_intents.specs.declared.plan_err.PlanErr.TheVariants.{Shelf, OutOfMemory}

-- what `list` says of what is found; an image of portable services is never broken
abbrev pub service_kind : State → FoundKind → ServiceKind
service_kind state found.Image = services.Image state
service_kind state found.Masked = services.Masked
service_kind state found.Raw = services.Raw
service_kind state (found.Broken why) = services.Image state

-- the item of one that was found, by what is attached
abbrev pub service_item : List Attachment → FoundItem → ServiceItem
service_item attached item = record { name = item.name; place = item.place; kind = service_kind (state_of attached item.name) item.kind }

-- what `list` wants of a host: each item that a search for images of portable services finds in the base
abbrev pub ServicesWants : Host → Intent → Type 0
ServicesWants host intent =
    (base : Entries HeldFile) × IsBaseTree host base
    × ((items : List FoundItem) × AreFound content_size base classes.Portable host.arch [] items
    × (intent ≡ Answers (answers.Services (map (service_item host.attached) items))))

-- how it is told why an image is not inspected: by a refusal, or by that nothing was planned
abbrev pub not_inspected : InspectErr → Result Refusal PlanErr
not_inspected inspecting.OutOfMemory = Err OutOfMemory
not_inspected inspecting.NoSuchImage = Ok refusals.NoSuchImage
not_inspected inspecting.NotPortable = Ok refusals.NotPortable
not_inspected (inspecting.BadRelease line) = Ok (refusals.BadRelease line)
not_inspected (inspecting.PrefixForbidden prefix) = Ok (refusals.PrefixForbidden prefix)
not_inspected inspecting.NoUnits = Ok refusals.NoUnits
not_inspected (inspecting.Shelf e) = Err (Shelf e)

-- why nothing is attached
abbrev pub not_attached : PortErr → Result Refusal PlanErr
not_attached attaching.OutOfMemory = Err OutOfMemory
not_attached attaching.NoSuchImage = Ok refusals.NoSuchImage
not_attached attaching.AlreadyAttached = Ok refusals.AlreadyAttached
not_attached attaching.NotAttached = Ok refusals.NotAttached
not_attached attaching.NotPortable = Ok refusals.NotPortable
not_attached (attaching.BadRelease line) = Ok (refusals.BadRelease line)
not_attached (attaching.PrefixForbidden prefix) = Ok (refusals.PrefixForbidden prefix)
not_attached attaching.NoUnits = Ok refusals.NoUnits
not_attached attaching.NoProfile = Ok refusals.NoProfile
not_attached (attaching.ReadOnly path) = Ok (refusals.ReadOnly path)
not_attached (attaching.UnitExists path) = Ok (refusals.UnitExists path)
not_attached (attaching.NotDirectory path) = Ok (refusals.NotDirectory path)
not_attached (attaching.Limit which) = Ok (refusals.Limit which)
not_attached (attaching.Shelf e) = Err (Shelf e)

-- and why nothing is attached with extensions, each of which is told as it was given
abbrev pub NotExtended : List Image → PortExtErr → Result Refusal PlanErr → Type 0
NotExtended extensions extending.OutOfMemory result = result ≡ Err OutOfMemory
NotExtended extensions (extending.Port error) result = result ≡ not_attached error
NotExtended extensions (extending.NoExtension at) result =
    (extension : Image) × (slice_get extensions at ≡ Some extension) × (result ≡ Ok (refusals.NoExtension extension))
NotExtended extensions (extending.Extension at why) result =
    (extension : Image) × (slice_get extensions at ≡ Some extension) × (result ≡ Ok (refusals.Extension extension why))
NotExtended extensions (extending.Limit which) result = result ≡ Ok (refusals.Limit which)

-- where it tells of an extension, that is one of these
abbrev pub TellsOfList : List Image → PortExtErr → Type 0
TellsOfList extensions extending.OutOfMemory = Unit {0}
TellsOfList extensions (extending.Port error) = Unit {0}
TellsOfList extensions (extending.NoExtension at) = at < length extensions
TellsOfList extensions (extending.Extension at why) = at < length extensions
TellsOfList extensions (extending.Limit which) = Unit {0}

-- why nothing is detached
abbrev pub not_detached : DetachErr → Result Refusal PlanErr
not_detached detaching.OutOfMemory = Err OutOfMemory
not_detached detaching.NotAttached = Ok refusals.NotAttached
not_detached (detaching.ReadOnly path) = Ok (refusals.ReadOnly path)

-- what `inspect` wants of a host
abbrev pub InspectWants : Host → (HeldFile → Told) → Image → List (List ℕ) → Intent → Type 0
InspectWants host told image prefixes intent =
    (base : Entries HeldFile) × IsBaseTree host base
    × (((inspect : Inspect) × Inspects told 0 0 base host.arch image prefixes (Ok inspect) × (intent ≡ Answers (answers.Inspected inspect)))
    ⊎ ((error : InspectErr) × (refusal : Refusal) × Inspects told 0 0 base host.arch image prefixes (Err error)
    × (not_inspected error ≡ Ok refusal) × (intent ≡ Refuses refusal)))

-- what the answer of `is-attached` is
abbrev pub is_attached_intent : Host → List ℕ → Intent
is_attached_intent host name = Answers (answers.State (state_of host.attached name))

-- the host with what is attached
abbrev pub attached_intent : Attach → Intent
attached_intent attach = Changes attach.plan.next (answers.Attached attach.units)

-- what attaching an image, or attaching it anew, gives of a host with these extensions, whatever they are told of
abbrev pub Attached : Host → (HeldFile → Told) → Bool → Ask → List Image → Attach → Type 0
Attached host told again ask [] attach = Attaches told 0 0 again host ask (Ok attach)
Attached host told again ask (extension ∷ extensions) attach = AttachesExtended told 0 0 again host ask (extension ∷ extensions) (Ok attach)

-- why nothing is attached
abbrev pub IsNotAttached : Host → (HeldFile → Told) → Bool → Ask → List Image → Refusal → Type 0
IsNotAttached host told again ask [] refusal =
    (error : PortErr) × Attaches told 0 0 again host ask (Err error) × (not_attached error ≡ Ok refusal)
IsNotAttached host told again ask (extension ∷ extensions) refusal =
    (error : PortExtErr) × AttachesExtended told 0 0 again host ask (extension ∷ extensions) (Err error)
    × NotExtended (extension ∷ extensions) error (Ok refusal)

-- what is wanted of a host where an image is to be attached, or attached anew, with these extensions
abbrev pub AskWants : Host → (HeldFile → Told) → Bool → Ask → List Image → Intent → Type 0
AskWants host told again ask extensions intent =
    ((attach : Attach) × Attached host told again ask extensions attach × IsPlannedHost host attach.plan.next
    × (intent ≡ attached_intent attach))
    ⊎ ((refusal : Refusal) × IsNotAttached host told again ask extensions refusal × (intent ≡ Refuses refusal))

-- what `attach` and `reattach` want of a host
abbrev pub AttachWants : Host → (HeldFile → Told) → Bool → AttachWords → Intent → Type 0
AttachWants host told again words intent = AskWants host told again (ask_of words) (extensions_of words) intent

-- what `detach` wants of a host
abbrev pub DetachWants : Host → List ℕ → Intent → Type 0
DetachWants host name intent =
    ((plan : Plan) × Detaches host name (Ok plan) × (intent ≡ Changes plan.next answers.Detached))
    ⊎ ((error : DetachErr) × (refusal : Refusal) × Detaches host name (Err error) × (not_detached error ≡ Ok refusal)
    × (intent ≡ Refuses refusal))

-- what each of these commands wants of a host
abbrev pub PortWants : Host → (HeldFile → Told) → PortCommand → Intent → Type 0
PortWants host told commands.List intent = ServicesWants host intent
PortWants host told (commands.Inspect image prefixes) intent = InspectWants host told image prefixes intent
PortWants host told (commands.IsAttached name) intent = intent ≡ is_attached_intent host name
PortWants host told (commands.Attach words) intent = AttachWants host told false words intent
PortWants host told (commands.Detach name) intent = DetachWants host name intent
PortWants host told (commands.Reattach words) intent = AttachWants host told true words intent

-- a file that is read where an image is attached, or attached anew, with these extensions: its release file, and those of the
-- extensions
abbrev pub IsAskFile : Host → Bool → Ask → List Image → HeldFile → Type 0
IsAskFile host again ask [] held = IsAttachFile again host ask held
IsAskFile host again ask (extension ∷ extensions) held = IsExtendedFile again host ask (extension ∷ extensions) held

-- a file of a host that is read before it is known what these commands want: `list`, `is-attached` and `detach` read none
abbrev pub IsServiceFile : Host → PortCommand → HeldFile → Type 0
IsServiceFile host commands.List held = ⊥
IsServiceFile host (commands.Inspect image prefixes) held = IsInspectFile host image held
IsServiceFile host (commands.IsAttached name) held = ⊥
IsServiceFile host (commands.Attach words) held = IsAskFile host false (ask_of words) (extensions_of words) held
IsServiceFile host (commands.Detach name) held = ⊥
IsServiceFile host (commands.Reattach words) held = IsAskFile host true (ask_of words) (extensions_of words) held
