-- Which line may stand next, and what is read then.
use Rattle.std.specs.Prelude.{◌≡◌, ◌≢◌, ℕ, ◌+◌, ◌<◌, ◌≤◌, Bool, true, false, ◌⊎◌, List, [], ◌∷◌, ◌++◌, length, codes, not, IsTrue, Option, Some, None}
use Rattle.std.specs.List.{list_any}
use Rattle.std.specs.Ordering.{eq_by_cmp, nat_cmp}
use Rattle.ext_text.specs.Digest.{IsDigest}
use Rattle.ext_text.specs.Name.{IsName, bytes_cmp}
use Rattle.ext_text.specs.Path.{path_cmp}
use Rattle.ext_text.specs.declared.arch.Arch.{Arch}
use Rattle.ext_text.specs.declared.extension.Extension.{Extension}
use Rattle.ext_text.specs.declared.extension.Extension.TheVariants as extensions
use Rattle.ext_text.specs.declared.digest.Digest.{Digest}
use Rattle.ext_text.specs.declared.scope.Scope.{Scope}
use Rattle.ext_text.specs.declared.scope.Scope.TheVariants as scopes
use Rattle.ext_vers.specs.Version.{order_of}
use Rattle.ext_tree.specs.Tree.{IsTree, most_entries}
use Rattle.ext_tree.specs.declared.entry.Entry.{Entry}
use Rattle.ext_tree.specs.declared.entry.Entry.TheVariants.{Dir, Opaque, File, Link, Hide}
use Rattle.ext_host.specs.Held.{HeldFile}
use Rattle.ext_host.specs.Host.{is_in}
use Rattle.ext_host.specs.Valid.{bytes_of, most_bytes, most_past}
use Rattle.ext_host.specs.declared.attachment.Attachment.{Attachment}
use Rattle.ext_host.specs.declared.past.Past.{Past}
use Rattle.ext_index_lines.specs.Homed.{HasHomedLine, homed_line}
use Rattle.ext_index_lines.specs.Homes.{kept_entry}
use Rattle.ext_index_lines.specs.Lines.{IsLinePath, attachment_line, header_line, hierarchy_line, host_line, item_line, manifest_line, may_tell, number_line, path_line, worded}
use Rattle.ext_index_lines.specs.declared.homed.Homed.{Homed}
use Rattle.ext_index_lines.specs.declared.text_number.TextNumber.{TextNumber}
use Rattle.ext_index_reader.specs.Following.{may_follow, may_follow_apart}
use Rattle.ext_index_reader.specs.Homes.{Agrees}
use Rattle.ext_index_reader.specs.State.{at, at_part, counted, merged_so_far, row_of, then_added, then_attached, then_confext, then_hierarchies, then_items, then_kept, then_lower, then_machine, then_past, then_root, then_sysext, with_confext_hier, with_lower, with_root, with_sysext_hier}
use Rattle.ext_index_reader.specs.declared.state.PartStage.{PartStage}
use Rattle.ext_index_reader.specs.declared.state.PartStage.TheVariants as parts
use Rattle.ext_index_reader.specs.declared.state.Reading.{Reading}
use Rattle.ext_index_reader.specs.declared.state.SoFar.{SoFar}
use Rattle.ext_index_reader.specs.declared.state.Stage.{Stage}
use Rattle.ext_index_reader.specs.declared.state.Stage.TheVariants as stages
use Rattle.ext_index_reader.specs.declared.state.Whose.TheVariants as whose

-- the highest count on a line
abbrev pub most_count : ℕ
most_count = 1073741824

-- the name is one of these
abbrev pub has_name : List (List ℕ) → List ℕ → Bool
has_name names name = list_any (λ n. eq_by_cmp bytes_cmp n name) names

-- a hierarchy of system extensions stands before those of configuration extensions, and is not the last line of them all
pub record MaySysext (s : SoFar) (more : ℕ) (name : List ℕ) : Type 0 where
  pub first : s.confext_hier ≡ []
  pub order : IsTrue (may_follow bytes_cmp (λ n. n) s.sysext_hier name)
  pub few : length s.sysext_hier < 16
  pub last : 0 < more

-- one of configuration extensions is not one of system extensions, and is the last line only where there are some of these
pub record MayConfext (s : SoFar) (more : ℕ) (name : List ℕ) : Type 0 where
  pub order : IsTrue (may_follow bytes_cmp (λ n. n) s.confext_hier name)
  pub few : length s.confext_hier < 16
  pub other : IsTrue (not (has_name s.sysext_hier name))
  pub last : (0 < more) ⊎ (0 < length s.sysext_hier)

-- the hierarchy of a line, with its class, or that the line has none
abbrev pub GivesHierarchy : List ℕ → Option (Extension × List ℕ) → Type 0
GivesHierarchy line None = (class : Extension) (name : List ℕ) → IsName name → line ≢ hierarchy_line class name
GivesHierarchy line (Some r) = IsName r.1 × (line ≡ hierarchy_line r.0 r.1)

-- which line stands next after that of a hierarchy of system extensions, and what has been read then, or that it may not stand there
abbrev pub OneMoreSysext : SoFar → SoFar → ℕ → List ℕ → Option Stage → Type 0
OneMoreSysext s t more name None = ¬ MaySysext s more name
OneMoreSysext s t more name (Some stage) = MaySysext s more name × (at t stage ≡ then_hierarchies (with_sysext_hier s name) more)

-- and after that of one of configuration extensions
abbrev pub OneMoreConfext : SoFar → SoFar → ℕ → List ℕ → Option Stage → Type 0
OneMoreConfext s t more name None = ¬ MayConfext s more name
OneMoreConfext s t more name (Some stage) = MayConfext s more name × (at t stage ≡ then_hierarchies (with_confext_hier s name) more)

-- the file, if it is one, is kept in this generation or in one before
abbrev pub IsUpTo : ℕ → Entry Homed → Type 0
IsUpTo g (Dir attributes) = Unit {0}
IsUpTo g (Opaque attributes) = Unit {0}
IsUpTo g (File attributes file) = file.home.generation ≤ g
IsUpTo g (Link owner target) = Unit {0}
IsUpTo g Hide = Unit {0}

-- there is room for one more entry in both trees together
pub record HasRoom (s : SoFar) (e : Entry Homed) : Type 0 where
  pub entries : length s.parts.root + length s.parts.lower < most_entries
  pub bytes : s.parts.bytes + bytes_of (kept_entry e) ≤ most_bytes

-- an entry of either tree
pub record MayEnter (g : ℕ) (s : SoFar) (e : Entry Homed) : Type 0 where
  pub told : IsTrue (may_tell s.text e)
  pub up_to : IsUpTo g e
  pub agrees : Agrees s.homes e
  pub room : HasRoom s e

-- the entry of a line that may stand in either tree, which is counted, or that the line has none
abbrev pub EntersLine : ℕ → SoFar → SoFar → List ℕ → Option (List (List ℕ) × Entry HeldFile) → Type 0
EntersLine g s t line None = (x : List (List ℕ) × Entry Homed) → HasHomedLine x → line ≡ homed_line x → ¬ MayEnter g s x.1
EntersLine g s t line (Some r) =
    (e : Entry Homed) × HasHomedLine (r.0, e) × MayEnter g s e × (line ≡ homed_line (r.0, e)) × (t ≡ counted s e) × (r.1 ≡ kept_entry e)

-- an entry is counted whose file has the stamp of its home, or it has another
abbrev pub CountsEntry : SoFar → SoFar → Entry Homed → Bool → Type 0
CountsEntry s t e true = Agrees s.homes e × (t ≡ counted s e)
CountsEntry s t e false = ¬ Agrees s.homes e

-- an entry may follow what is seen, or what lies under it
pub record MayRoot (g : ℕ) (s : SoFar) (x : List (List ℕ) × Entry Homed) : Type 0 where
  pub enters : MayEnter g s x.1
  pub tree : IsTree (s.parts.root ++ row_of x ∷ [])

-- the entry may stand next under what is seen: in order, in a directory, and at a merged hierarchy
pub record MayLower (g : ℕ) (s : SoFar) (x : List (List ℕ) × Entry Homed) : Type 0 where
  pub enters : MayEnter g s x.1
  pub tree : IsTree (s.parts.lower ++ row_of x ∷ [])
  pub inside : IsTrue (is_in (merged_so_far s) x.0)

-- the entry of a line was added to what is seen, or the line has none that may follow there
abbrev pub AddsRoot : ℕ → SoFar → SoFar → List ℕ → Bool → Type 0
AddsRoot g s t line false = (x : List (List ℕ) × Entry Homed) → HasHomedLine x → line ≡ homed_line x → ¬ MayRoot g s x
AddsRoot g s t line true = (x : List (List ℕ) × Entry Homed) × HasHomedLine x × MayRoot g s x × (line ≡ homed_line x) × (t ≡ with_root s x)

-- and to what lies under it
abbrev pub AddsLower : ℕ → SoFar → SoFar → List ℕ → Bool → Type 0
AddsLower g s t line false = (x : List (List ℕ) × Entry Homed) → HasHomedLine x → line ≡ homed_line x → ¬ MayLower g s x
AddsLower g s t line true = (x : List (List ℕ) × Entry Homed) × HasHomedLine x × MayLower g s x × (line ≡ homed_line x) × (t ≡ with_lower s x)

-- the merged names with that of a line, or that the line has none which may follow them
abbrev pub OneMoreName : List (List ℕ) → List ℕ → Option (List (List ℕ)) → Type 0
OneMoreName names line None = (name : List ℕ) → IsName name → line ≡ worded (codes "n") name → ¬ IsTrue (may_follow order_of (λ n. n) names name)
OneMoreName names line (Some longer) =
    (name : List ℕ) × IsName name × (line ≡ worded (codes "n") name) × IsTrue (may_follow order_of (λ n. n) names name) × (longer ≡ names ++ name ∷ [])

-- how many names a line says are merged, or that it says of none
abbrev pub GivesMerged : List ℕ → List ℕ → Option ℕ → Type 0
GivesMerged word line None = (n : ℕ) → 0 < n → n ≤ most_count → line ≢ number_line word n
GivesMerged word line (Some n) = (0 < n) × (n ≤ most_count) × (line ≡ number_line word n)

-- what the first line of an attachment tells
abbrev pub GivesAttachment : List ℕ → Option (Bool × ℕ) → Type 0
GivesAttachment line None = (runtime : Bool) (paths : ℕ) → paths ≤ most_count → line ≢ attachment_line runtime paths
GivesAttachment line (Some r) = (r.1 ≤ most_count) × (line ≡ attachment_line r.0 r.1)

-- the line may be the one that tells how many attachments there are
abbrev pub AttachedAt : SoFar → List ℕ → Reading → Type 0
AttachedAt s line t = (n : ℕ) × (n ≤ most_count) × (line ≡ number_line (codes "attached") n) × (t ≡ then_attached s n)

-- or, before it, that of the merged configuration extensions
abbrev pub ConfextAt : SoFar → List ℕ → Reading → Type 0
ConfextAt s line t =
    ((n : ℕ) × (0 < n) × (n ≤ most_count) × (line ≡ number_line (codes "confext") n) × (t ≡ then_confext s n []))
    ⊎ AttachedAt s line t

-- or, before both, that of the merged system extensions
abbrev pub SysextAt : SoFar → List ℕ → Reading → Type 0
SysextAt s line t =
    ((n : ℕ) × (0 < n) × (n ≤ most_count) × (line ≡ number_line (codes "sysext") n) × (t ≡ then_sysext s n []))
    ⊎ ConfextAt s line t

-- which line may stand next within a tree, and what is read then
abbrev pub PartStepsAt : ℕ → SoFar → PartStage → List ℕ → Reading → Type 0
PartStepsAt g s parts.Sysext line t = SysextAt s line t
PartStepsAt g s (parts.SysextName more names) line t =
    (name : List ℕ) × IsName name × (line ≡ worded (codes "n") name) × IsTrue (may_follow order_of (λ n. n) names name) × (t ≡ then_sysext s more (names ++ name ∷ []))
PartStepsAt g s parts.Confext line t = ConfextAt s line t
PartStepsAt g s (parts.ConfextName more names) line t =
    (name : List ℕ) × IsName name × (line ≡ worded (codes "n") name) × IsTrue (may_follow order_of (λ n. n) names name) × (t ≡ then_confext s more (names ++ name ∷ []))
PartStepsAt g s parts.Attached line t = AttachedAt s line t
PartStepsAt g s (parts.Attachment more) line t =
    (runtime : Bool) × (paths : ℕ) × (paths ≤ most_count) × (line ≡ attachment_line runtime paths) × (t ≡ at_part s (parts.Image more paths runtime))
PartStepsAt g s (parts.Image more paths runtime) line t =
    (name : List ℕ) × IsName name × (line ≡ worded (codes "i") name) × IsTrue (may_follow bytes_cmp (λ (a : Attachment). a.name) s.parts.attached name) × (t ≡ at_part s (parts.Place more paths runtime name))
PartStepsAt g s (parts.Place more paths runtime name) line t =
    (place : List (List ℕ)) × IsLinePath place × (line ≡ path_line (codes "s") place)
    × (t ≡ then_added s more paths (record { name = name; place = place; runtime = runtime; added = [] }))
PartStepsAt g s (parts.Added more paths a) line t =
    (path : List (List ℕ)) × IsLinePath path × (line ≡ path_line (codes "p") path) × IsTrue (may_follow path_cmp (λ p. p) a.added path)
    × (t ≡ then_added s more paths (record a { added = a.added ++ path ∷ [] }))
PartStepsAt g s parts.Kept line t = (n : ℕ) × (n ≤ most_count) × (line ≡ number_line (codes "kept") n) × (t ≡ then_kept s n)
PartStepsAt g s (parts.Manifest more) line t =
    (n : ℕ) × (path : List (List ℕ)) × (n ≤ most_count) × IsLinePath path × (line ≡ manifest_line n path) × IsTrue (may_follow_apart (λ m. m.path) s.parts.kept path)
    × (t ≡ then_items s more n (record { path = path; items = [] }))
PartStepsAt g s (parts.Item more items m) line t =
    (digest : Digest) × (path : List (List ℕ)) × IsDigest digest.0 × IsLinePath path × (line ≡ item_line digest.0 path) × IsTrue (may_follow path_cmp (λ i. i.path) m.items path)
    × (t ≡ then_items s more items (record m { items = m.items ++ (record { path = path; digest = digest }) ∷ [] }))
PartStepsAt g s parts.Root line t = (n : ℕ) × (n ≤ most_count) × (line ≡ number_line (codes "root") n) × (t ≡ then_root s n)
PartStepsAt g s (parts.RootEntry more) line t =
    (x : List (List ℕ) × Entry Homed) × HasHomedLine x × MayEnter g s x.1 × IsTree (s.parts.root ++ row_of x ∷ []) × (line ≡ homed_line x) × (t ≡ then_root (with_root s x) more)
PartStepsAt g s parts.Lower line t = (n : ℕ) × (n ≤ most_count) × (line ≡ number_line (codes "lower") n) × (t ≡ then_lower s n)
PartStepsAt g s (parts.LowerEntry more) line t =
    (x : List (List ℕ) × Entry Homed) × HasHomedLine x × MayEnter g s x.1 × IsTree (s.parts.lower ++ row_of x ∷ []) × IsTrue (is_in (merged_so_far s) x.0) × (line ≡ homed_line x)
    × (t ≡ then_lower (with_lower s x) more)

-- there is room for one more, of this generation, after those before it
pub record MayBePast (s : SoFar) (n : ℕ) : Type 0 where
  pub few : length s.past < most_past
  pub order : IsTrue (may_follow nat_cmp (λ (p : Past). p.generation) s.past n)

-- which line may stand next, and what is read then
abbrev pub StepsAt : ℕ → SoFar → Stage → List ℕ → Reading → Type 0
StepsAt g s stages.Header line t = (text : TextNumber) × (line ≡ header_line text) × (t ≡ at (record s { text = text }) stages.Machine)
StepsAt g s stages.Machine line t =
    (arch : Arch) × (scope : Scope) × (scope ≢ scopes.Portable) × (line ≡ host_line arch scope) × (t ≡ then_machine (record s { arch = arch; scope = scope }))
StepsAt g s stages.Hierarchies line t =
    (n : ℕ) × (2 ≤ n) × (n ≤ 32) × (line ≡ number_line (codes "hierarchies") n) × (t ≡ then_hierarchies s n)
StepsAt g s (stages.Hierarchy more) line t =
    ((name : List ℕ) × IsName name × MaySysext s more name × (line ≡ hierarchy_line extensions.Sysext name) × (t ≡ then_hierarchies (with_sysext_hier s name) more))
    ⊎ ((name : List ℕ) × IsName name × MayConfext s more name × (line ≡ hierarchy_line extensions.Confext name) × (t ≡ then_hierarchies (with_confext_hier s name) more))
StepsAt g s (stages.Part stage) line t = PartStepsAt g s stage line t
StepsAt g s stages.Past line t = (n : ℕ) × (n ≤ most_count) × (line ≡ number_line (codes "past") n) × (t ≡ then_past s n)
StepsAt g s (stages.Generation more) line t =
    (n : ℕ) × (0 < n) × (n < g) × MayBePast s n × (line ≡ number_line (codes "g") n)
    × (t ≡ at_part (record s { whose = whose.Past n more }) parts.Sysext)
StepsAt g s stages.End line t = (line ≡ codes "end") × (t ≡ at s stages.Done)
StepsAt g s stages.Done line t = ⊥

-- the line may stand next, and this is read then
abbrev pub Steps : ℕ → Reading → List ℕ → Reading → Type 0
Steps g r line t = StepsAt g r.so_far r.stage line t

-- the lines may stand next, one after another
abbrev pub StepsThrough : ℕ → Reading → List (List ℕ) → Reading → Type 0
StepsThrough g r [] t = r ≡ t
StepsThrough g r (line ∷ lines) t = (m : Reading) × Steps g r line m × StepsThrough g m lines t
