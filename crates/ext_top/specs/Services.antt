-- What the commands of portable services do to the host of a state, this project's own: what they attach, at which paths of the base
-- they write or cut, and what detaching gives back.
use Rattle.std.specs.Prelude.{◌≡◌, ◌⊎◌, ℕ, Bool, true, false, IsTrue, List, ◌++◌, Some}
use Rattle.ext_text.specs.SortedPaths.{is_among}
use Rattle.ext_text.specs.declared.which.Which.{Which}
use Rattle.ext_tree.specs.Tree.{lookup}
use Rattle.ext_host.specs.Drawn.{IsFileOf, trees_of}
use Rattle.ext_host.specs.Held.{HeldFile}
use Rattle.ext_host.specs.Touch.{untouched_all}
use Rattle.ext_host.specs.declared.host.Host.{Host}
use Rattle.ext_units.specs.ImageName.{image_name}
use Rattle.ext_units.specs.declared.image.Image.{Image}
use Rattle.ext_attached.specs.Going.{cut_paths, detached}
use Rattle.ext_attached.specs.declared.going.By.TheVariants.{Name}
use Rattle.ext_port.specs.Laws.{added_of, with_ways}
use Rattle.ext_port.specs.Starting.{cut_of, start_host}
use Rattle.ext_port.specs.declared.attaching.Attach.{Attach}
use Rattle.ext_gen.specs.Preparing.{limit_of}
use Rattle.ext_gen.specs.Store.{State, at, generation_in}
use Rattle.ext_cmd.specs.Portable.{ask_of, extensions_of}
use Rattle.ext_cmd.specs.Replies.{answer_text}
use Rattle.ext_cmd.specs.declared.answer.Answer.TheVariants.{Detached}
use Rattle.ext_cmd.specs.declared.portable.AttachWords.{AttachWords}
use Rattle.ext_cmd.specs.declared.portable.PortCommand.{PortCommand}
use Rattle.ext_cmd.specs.declared.portable.PortCommand.TheVariants as commands
use Rattle.ext_cmd.specs.declared.refusal.Refusal.TheVariants.{Limit}
use Rattle.ext_intents.specs.Intents.{Seen}
use Rattle.ext_intents.specs.Portable.{Attached}
use Rattle.ext_top.specs.Machine.{Outcome, bytes_at, gives, refuses, seen_in}

-- an image that is attached, or attached anew, by what is seen of a state's host
pub record AttachesIn (s : State) (again : Bool) (words : AttachWords) : Type 0 where
  pub seen : Seen
  pub is_seen : seen_in s ≡ Some seen
  pub attach : Attach
  pub attached : Attached seen.host seen.told again (ask_of words) (extensions_of words) attach

-- the paths at which it puts something, behind those of the attachments that go for it
abbrev pub touched_in : {s : State} {again : Bool} {words : AttachWords} → AttachesIn s again words → List (List (List ℕ))
touched_in {s} {again} {words} attaches = cut_of again words.image attaches.seen.host ++ added_of (ask_of words) attaches.attach.plan.next

-- attaching an image, or attaching it anew, writes or cuts at this path of the base of the state's host
abbrev pub TouchesByAttaching : State → Bool → AttachWords → List (List ℕ) → Type 0
TouchesByAttaching s again words path = (attaches : AttachesIn s again words) × IsTrue (is_among (touched_in attaches) path)

-- a command of portable services does; detaching cuts the paths of the attachment
abbrev pub TouchesByService : State → PortCommand → List (List ℕ) → Type 0
TouchesByService s commands.List path = ⊥
TouchesByService s (commands.Inspect image prefixes) path = ⊥
TouchesByService s (commands.IsAttached name) path = ⊥
TouchesByService s (commands.Attach words) path = TouchesByAttaching s false words path
TouchesByService s (commands.Detach name) path = (seen : Seen) × (seen_in s ≡ Some seen) × IsTrue (is_among (cut_paths Name name seen.host) path)
TouchesByService s (commands.Reattach words) path = TouchesByAttaching s true words path

-- the command by which an image is attached, or attached anew
abbrev pub attaching : Bool → AttachWords → PortCommand
attaching false words = commands.Attach words
attaching true words = commands.Reattach words

-- A later host has again what an earlier one had before something was put at some paths: at each path what was seen there, and in
-- the ways to these paths, where nothing stood, a made directory; what lay under that, the merged names, the attachments, and the
-- manifests that are related to none of these paths.
pub record HasBack (added : List (List (List ℕ))) (earlier later : Host) : Type 0 where
  pub root : (path : List (List ℕ)) → lookup later.root path ≡ with_ways added earlier.root path
  pub lower : (path : List (List ℕ)) → lookup later.lower path ≡ lookup earlier.lower path
  pub sysext : later.sysext ≡ earlier.sysext
  pub confext : later.confext ≡ earlier.confext
  pub attached : later.attached ≡ earlier.attached
  pub kept : later.kept ≡ untouched_all added earlier.kept

-- The later of three states has so what the first had before an image was attached, which the second has, or what that had without
-- the attachments that went for it; and each file of the first host has the bytes that it had.
abbrev pub IsBackFrom : Bool → Image → State → State → State → Type 0
IsBackFrom again image (at g contents) (at h bytes) (at k rest) =
    HasBack (cut_paths Name (image_name image) h.host) (start_host again image g.host) k.host
    × ((held : HeldFile) → IsFileOf (trees_of g.host) held → bytes_at (at k rest) held.body ≡ bytes_at (at g contents) held.body)
IsBackFrom again image first second later = ⊥

-- the store of a state has no room for its host without the attachment of this name: the coming index would be too long, or there is
-- no number for the coming generation
abbrev pub HasNoRoom : State → List ℕ → Which → Type 0
HasNoRoom (at h bytes) name which = limit_of (generation_in (at h bytes)) (detached Name name h.host) ≡ Some which
HasNoRoom s name which = ⊥

-- what detaching an image gives of the second of two states, in which it was attached to the host of the first: what there was is back,
-- or the store has no room; there is no other refusal
abbrev pub GivesBack : Bool → Image → State → State → Outcome → Type 0
GivesBack again image first second outcome =
    ((later : State) × (outcome ≡ gives later (answer_text Detached)) × IsBackFrom again image first second later)
    ⊎ ((which : Which) × (outcome ≡ refuses (Limit which)) × HasNoRoom second (image_name image) which)
