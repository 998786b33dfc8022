-- The replies of commands that are done. Each line ends in a newline; paths of the host stand after a `/`. The words are
-- this project's own.
use Rattle.std.specs.Prelude.{ℕ, Bool, true, false, List, [], ◌++◌, length, codes, decimal, Option, Some, None}
use Rattle.std.specs.List.{flat_map}
use Rattle.std.specs.declared.cmp.Ordering.{Ordering}
use Rattle.std.specs.declared.cmp.Ordering.TheVariants as orders
use Rattle.hex.specs.Hex.{encode_lower}
use Rattle.ext_text.specs.Absolute.{absolute}
use Rattle.ext_text.specs.declared.digest.Digest.{Digest}
use Rattle.ext_history.specs.declared.marks.Mark.{Mark}
use Rattle.ext_changes.specs.Lines.{changes_text}
use Rattle.ext_origin.specs.Lines.{origins_text}
use Rattle.ext_attached.specs.declared.state.State.{State}
use Rattle.ext_attached.specs.declared.state.State.TheVariants as states
use Rattle.ext_units.specs.declared.inspected.Inspect.{Inspect}
use Rattle.ext_match.specs.declared.verdict.Verdict.{Verdict}
use Rattle.ext_match.specs.declared.verdict.Verdict.TheVariants as verdicts
use Rattle.ext_find.specs.declared.found.BreakWhy.{BreakWhy}
use Rattle.ext_find.specs.declared.found.BreakWhy.TheVariants.{NotDirectory, HasOsRelease, NoRelease}
use Rattle.ext_cmd.specs.declared.answer.Answer.{Answer}
use Rattle.ext_cmd.specs.declared.answer.Answer.TheVariants.{Done, Unchanged, Merged, Unmerged, Found, Tree, Order, Checked, Sample}
use Rattle.ext_cmd.specs.declared.answer.Answer.TheVariants.{Versions, Version, Updated, Removed, Features, Components}
use Rattle.ext_cmd.specs.declared.answer.Answer.TheVariants.{Marked, History, Changes, Explained}
use Rattle.ext_cmd.specs.declared.answer.Answer.TheVariants as answers
use Rattle.ext_cmd.specs.declared.answer.FeatureItem.{FeatureItem}
use Rattle.ext_cmd.specs.declared.answer.Item.{Item}
use Rattle.ext_cmd.specs.declared.answer.ItemKind.{ItemKind}
use Rattle.ext_cmd.specs.declared.answer.ItemKind.TheVariants.{Image, Masked, Raw, Broken, BadRelease}
use Rattle.ext_cmd.specs.declared.answer.Presence.{Presence}
use Rattle.ext_cmd.specs.declared.answer.Presence.TheVariants.{Absent, Partial, Installed}
use Rattle.ext_cmd.specs.declared.answer.ServiceItem.{ServiceItem}
use Rattle.ext_cmd.specs.declared.answer.ServiceKind.{ServiceKind}
use Rattle.ext_cmd.specs.declared.answer.ServiceKind.TheVariants as services
use Rattle.ext_cmd.specs.declared.answer.VersionItem.{VersionItem}

-- a line and its newline
abbrev pub lined : List ℕ → List ℕ
lined line = line ++ codes "\n"

-- the word of a verdict
abbrev pub verdict_word : Verdict → List ℕ
verdict_word verdicts.Fits = codes "fits"
verdict_word verdicts.Scope = codes "scope"
verdict_word verdicts.Architecture = codes "architecture"
verdict_word verdicts.NoId = codes "no-id"
verdict_word verdicts.Id = codes "id"
verdict_word verdicts.Level = codes "level"
verdict_word verdicts.Version = codes "version"

-- and of why an image can't be used
abbrev pub why_word : BreakWhy → List ℕ
why_word NotDirectory = codes "not-directory"
why_word HasOsRelease = codes "has-os-release"
why_word NoRelease = codes "no-release"

-- what a found item is, and where
abbrev pub kind_words : List (List ℕ) → ItemKind → List ℕ
kind_words place (Image verdict) = codes "image " ++ absolute place ++ codes " " ++ verdict_word verdict
kind_words place Masked = codes "masked " ++ absolute place
kind_words place Raw = codes "raw " ++ absolute place
kind_words place (Broken why) = codes "broken " ++ absolute place ++ codes " " ++ why_word why
kind_words place (BadRelease line) = codes "broken " ++ absolute place ++ codes " " ++ (codes "bad-release " ++ decimal line)

-- the line of a found item
abbrev pub item_line : Item → List ℕ
item_line item = lined (item.name ++ codes " " ++ kind_words item.place item.kind)

-- how many names, after some words, and each name on a line of its own
abbrev pub names_text : List ℕ → List (List ℕ) → List ℕ
names_text words names = lined (words ++ decimal (length names)) ++ flat_map lined names

-- the word of an order
abbrev pub order_word : Ordering → List ℕ
order_word orders.Less = codes "less"
order_word orders.Equal = codes "equal"
order_word orders.Greater = codes "greater"

-- the lines of what a made host comes to
abbrev pub sample_text : ℕ → ℕ → ℕ → Digest → List ℕ
sample_text entries files bytes digest =
    lined (codes "entries " ++ decimal entries) ++ lined (codes "files " ++ decimal files) ++ lined (codes "bytes " ++ decimal bytes)
    ++ lined (codes "sha256 " ++ encode_lower digest.0)

-- a flag after a space, where it is set
abbrev pub flag_word : Bool → List ℕ → List ℕ
flag_word false word = []
flag_word true word = codes " " ++ word

-- which of the targets have a version, after a space; nothing where none has it
abbrev pub presence_word : Presence → List ℕ
presence_word Absent = []
presence_word Partial = codes " partial"
presence_word Installed = codes " installed"

-- the line of a version, with its flags
abbrev pub version_line : VersionItem → List ℕ
version_line item =
    lined (item.version ++ flag_word item.available (codes "available") ++ presence_word item.presence
    ++ flag_word item.protected (codes "protected") ++ flag_word item.obsolete (codes "obsolete"))

-- the line of a path of the host
abbrev pub path_line : List (List ℕ) → List ℕ
path_line path = lined (absolute path)

-- how many paths were removed, and each path on a line of its own
abbrev pub removed_text : List (List (List ℕ)) → List ℕ
removed_text paths = lined (codes "removed " ++ decimal (length paths)) ++ flat_map path_line paths

-- whether a feature is on, after a space
abbrev pub feature_word : Bool → List ℕ
feature_word false = codes " off"
feature_word true = codes " on"

-- the line of a feature
abbrev pub feature_line : FeatureItem → List ℕ
feature_line item = lined (item.name ++ feature_word item.on)

-- the line of a mark: its generation, and how many entries were seen and how many of them are files
abbrev pub mark_line : Mark → List ℕ
mark_line mark = lined (decimal mark.generation ++ codes " " ++ decimal mark.entries ++ codes " " ++ decimal mark.files)

-- the word of the state of a portable service
abbrev pub state_word : State → List ℕ
state_word states.Detached = codes "detached"
state_word states.Attached = codes "attached"
state_word states.AttachedRuntime = codes "attached-runtime"

-- what a found item of portable services is, and where
abbrev pub service_words : List (List ℕ) → ServiceKind → List ℕ
service_words place (services.Image state) = codes "image " ++ absolute place ++ codes " " ++ state_word state
service_words place services.Masked = codes "masked " ++ absolute place
service_words place services.Raw = codes "raw " ++ absolute place

-- the line of a found item of portable services
abbrev pub service_line : ServiceItem → List ℕ
service_line item = lined (item.name ++ codes " " ++ service_words item.place item.kind)

-- a value of a release file, or `-` where it is unset
abbrev pub value_word : Option (List ℕ) → List ℕ
value_word None = codes "-"
value_word (Some value) = value

-- the line of a unit
abbrev pub unit_line : List ℕ → List ℕ
unit_line name = lined (codes "unit " ++ name)

-- the lines of what inspecting a portable service tells
abbrev pub inspect_text : Inspect → List ℕ
inspect_text inspect =
    lined (codes "image " ++ absolute inspect.place) ++ lined (codes "id " ++ value_word inspect.id)
    ++ lined (codes "version " ++ value_word inspect.version) ++ flat_map unit_line inspect.units

-- the text of an answer
abbrev pub answer_text : Answer → List ℕ
answer_text Done = lined (codes "done")
answer_text Unchanged = lined (codes "unchanged")
answer_text (Merged names) = names_text (codes "merged ") names
answer_text Unmerged = lined (codes "unmerged")
answer_text (Found items) = flat_map item_line items
answer_text (Tree text) = text
answer_text (Order order) = lined (order_word order)
answer_text (Checked files bytes) = lined (codes "ok " ++ decimal files ++ codes " " ++ decimal bytes)
answer_text (Sample entries files bytes digest) = sample_text entries files bytes digest
answer_text (Versions items) = flat_map version_line items
answer_text (Version version) = lined version
answer_text (Updated version) = lined (codes "updated " ++ version)
answer_text (Removed paths) = removed_text paths
answer_text (Features items) = flat_map feature_line items
answer_text (Components names) = names_text (codes "components ") names
answer_text (Marked generation) = lined (codes "marked " ++ decimal generation)
answer_text (History marks) = flat_map mark_line marks
answer_text (Changes changes) = changes_text changes
answer_text (Explained origins) = origins_text origins
answer_text (answers.Services items) = flat_map service_line items
answer_text (answers.Inspected inspect) = inspect_text inspect
answer_text (answers.State state) = lined (state_word state)
answer_text (answers.Attached names) = names_text (codes "attached ") names
answer_text answers.Detached = lined (codes "detached")
