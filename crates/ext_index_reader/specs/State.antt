-- How far an index has been read: the states between its lines.
use Rattle.std.specs.Prelude.{ℕ, zero, suc, ◌+◌, if◌then◌else◌, List, [], ◌∷◌, ◌++◌, Some, None}
use Rattle.ext_text.specs.declared.arch.Arch.TheVariants.{X86}
use Rattle.ext_text.specs.declared.extension.Extension.TheVariants.{Sysext, Confext}
use Rattle.ext_text.specs.declared.scope.Scope.TheVariants.{System}
use Rattle.ext_tree.specs.declared.entry.Entry.{Entry}
use Rattle.ext_host.specs.Held.{HeldFile}
use Rattle.ext_host.specs.Host.{Hierarchies, HostTree, default_hierarchies, merged_hierarchies}
use Rattle.ext_host.specs.Valid.{bytes_of}
use Rattle.ext_host.specs.declared.attachment.Attachment.{Attachment}
use Rattle.ext_host.specs.declared.manifest.Manifest.{Manifest}
use Rattle.ext_host.specs.declared.past.Past.{Past}
use Rattle.ext_host.specs.declared.host.Host.{Host}
use Rattle.ext_index_lines.specs.Homes.{kept_entry}
use Rattle.ext_index_lines.specs.Lines.{is_later}
use Rattle.ext_index_lines.specs.declared.homed.Homed.{Homed}
use Rattle.ext_index_lines.specs.declared.text_number.TextNumber.TheVariants.{One}
use Rattle.ext_index_reader.specs.Homes.{noted}
use Rattle.ext_index_reader.specs.declared.state.Parts.{Parts}
use Rattle.ext_index_reader.specs.declared.state.PartStage.{PartStage}
use Rattle.ext_index_reader.specs.declared.state.PartStage.TheVariants as parts
use Rattle.ext_index_reader.specs.declared.state.Reading.{Reading}
use Rattle.ext_index_reader.specs.declared.state.SoFar.{SoFar}
use Rattle.ext_index_reader.specs.declared.state.Stage.{Stage}
use Rattle.ext_index_reader.specs.declared.state.Stage.TheVariants as stages
use Rattle.ext_index_reader.specs.declared.state.Whose.{Whose}
use Rattle.ext_index_reader.specs.declared.state.Whose.TheVariants as whose

-- nothing read of a tree
abbrev pub no_parts : Parts
no_parts = record { sysext = None; confext = None; attached = []; kept = []; root = []; lower = []; bytes = 0 }

-- what was read, and which line stands next
abbrev pub at : SoFar → Stage → Reading
at s stage = record { so_far = s; stage = stage }

-- the same within a tree
abbrev pub at_part : SoFar → PartStage → Reading
at_part s stage = at s (stages.Part stage)

-- before the first line
abbrev pub start : Reading
start = at (record { text = One; arch = X86; scope = System; sysext_hier = []; confext_hier = []; homes = []; host = no_parts; past = []; whose = whose.Host; parts = no_parts }) stages.Header

-- the parts as those of a host
abbrev pub tree_of : Parts → HostTree
tree_of p = record { root = p.root; lower = p.lower; sysext = p.sysext; confext = p.confext; attached = p.attached; kept = p.kept }

-- the past tree that parts make
abbrev pub past_of : ℕ → Parts → Past
past_of generation p =
    record { generation = generation; root = p.root; lower = p.lower; sysext = p.sysext; confext = p.confext; attached = p.attached; kept = p.kept }

-- the host that was read
abbrev pub host_of : SoFar → Host
host_of s = record {
  arch = s.arch;
  scope = s.scope;
  root = s.host.root;
  lower = s.host.lower;
  sysext = s.host.sysext;
  confext = s.host.confext;
  attached = s.host.attached;
  kept = s.host.kept;
  sysext_hier = s.sysext_hier;
  confext_hier = s.confext_hier;
  past = s.past;
}

-- the hierarchies that were read
abbrev pub hierarchies_so_far : SoFar → Hierarchies
hierarchies_so_far s = record { sysext = s.sysext_hier; confext = s.confext_hier }

-- the hierarchies of the classes that are merged in the parts being read
abbrev pub merged_so_far : SoFar → List (List ℕ)
merged_so_far s = merged_hierarchies (hierarchies_so_far s) (tree_of s.parts)

-- one more hierarchy of system extensions
abbrev pub with_sysext_hier : SoFar → List ℕ → SoFar
with_sysext_hier s name = record s { sysext_hier = s.sysext_hier ++ name ∷ [] }

-- one more hierarchy of configuration extensions
abbrev pub with_confext_hier : SoFar → List ℕ → SoFar
with_confext_hier s name = record s { confext_hier = s.confext_hier ++ name ∷ [] }

-- the names of merged system extensions
abbrev pub with_sysext : SoFar → List (List ℕ) → SoFar
with_sysext s names = record s { parts = record s.parts { sysext = Some names } }

-- the names of merged configuration extensions
abbrev pub with_confext : SoFar → List (List ℕ) → SoFar
with_confext s names = record s { parts = record s.parts { confext = Some names } }

-- one more attachment
abbrev pub with_attachment : SoFar → Attachment → SoFar
with_attachment s a = record s { parts = record s.parts { attached = s.parts.attached ++ a ∷ [] } }

-- one more manifest
abbrev pub with_manifest : SoFar → Manifest → SoFar
with_manifest s m = record s { parts = record s.parts { kept = s.parts.kept ++ m ∷ [] } }

-- an entry of a line, as the host has it
abbrev pub row_of : List (List ℕ) × Entry Homed → List (List ℕ) × Entry HeldFile
row_of x = (x.0, kept_entry x.1)

-- the home of an entry's file is noted, and its bytes are counted
abbrev pub counted : SoFar → Entry Homed → SoFar
counted s e = record s { homes = noted s.homes e; parts = record s.parts { bytes = s.parts.bytes + bytes_of (kept_entry e) } }

-- one more entry that is seen
abbrev pub with_root : SoFar → List (List ℕ) × Entry Homed → SoFar
with_root s x = record (counted s x.1) { parts = record (counted s x.1).parts { root = s.parts.root ++ row_of x ∷ [] } }

-- one more entry that lies under what is seen
abbrev pub with_lower : SoFar → List (List ℕ) × Entry Homed → SoFar
with_lower s x = record (counted s x.1) { parts = record (counted s x.1).parts { lower = s.parts.lower ++ row_of x ∷ [] } }

-- the default hierarchies, which a text with number 1 means
abbrev pub with_defaults : SoFar → SoFar
with_defaults s = record s { sysext_hier = default_hierarchies Sysext; confext_hier = default_hierarchies Confext }

-- after the line of the machine
abbrev pub then_machine : SoFar → Reading
then_machine s = if is_later s.text then at s stages.Hierarchies else at_part (with_defaults s) parts.Sysext

-- while so many more hierarchies are to come
abbrev pub then_hierarchies : SoFar → ℕ → Reading
then_hierarchies s zero = at_part s parts.Sysext
then_hierarchies s (suc more) = at s (stages.Hierarchy more)

-- while so many more names of system extensions are to come
abbrev pub then_sysext : SoFar → ℕ → List (List ℕ) → Reading
then_sysext s zero names = at_part (with_sysext s names) parts.Confext
then_sysext s (suc more) names = at_part s (parts.SysextName more names)

-- while so many more names of configuration extensions are to come
abbrev pub then_confext : SoFar → ℕ → List (List ℕ) → Reading
then_confext s zero names = at_part (with_confext s names) parts.Attached
then_confext s (suc more) names = at_part s (parts.ConfextName more names)

-- while so many more attachments are to come
abbrev pub then_attached : SoFar → ℕ → Reading
then_attached s zero = at_part s parts.Kept
then_attached s (suc more) = at_part s (parts.Attachment more)

-- while so many more added paths of an attachment are to come
abbrev pub then_added : SoFar → ℕ → ℕ → Attachment → Reading
then_added s more zero a = then_attached (with_attachment s a) more
then_added s more (suc paths) a = at_part s (parts.Added more paths a)

-- while so many more manifests are to come
abbrev pub then_kept : SoFar → ℕ → Reading
then_kept s zero = at_part s parts.Root
then_kept s (suc more) = at_part s (parts.Manifest more)

-- while so many more items of a manifest are to come
abbrev pub then_items : SoFar → ℕ → ℕ → Manifest → Reading
then_items s more zero m = then_kept (with_manifest s m) more
then_items s more (suc items) m = at_part s (parts.Item more items m)

-- while so many more entries that are seen are to come
abbrev pub then_root : SoFar → ℕ → Reading
then_root s zero = at_part s parts.Lower
then_root s (suc more) = at_part s (parts.RootEntry more)

-- while so many more past trees are to come
abbrev pub then_past : SoFar → ℕ → Reading
then_past s zero = at s stages.End
then_past s (suc more) = at s (stages.Generation more)

-- the host's own parts are complete
abbrev pub host_done : SoFar → SoFar
host_done s = record s { host = s.parts; parts = no_parts }

-- those of a past tree are
abbrev pub past_done : SoFar → ℕ → SoFar
past_done s generation = record s { past = s.past ++ past_of generation s.parts ∷ []; parts = no_parts }

-- after the parts: of the host's own, or of a past tree
abbrev pub after_parts : SoFar → Whose → Reading
after_parts s whose.Host = if is_later s.text then at (host_done s) stages.Past else at (host_done s) stages.End
after_parts s (whose.Past generation more) = then_past (past_done s generation) more

-- while so many more entries that lie under them are to come
abbrev pub then_lower : SoFar → ℕ → Reading
then_lower s zero = after_parts s s.whose
then_lower s (suc more) = at_part s (parts.LowerEntry more)
