-- The words of commands: what the words of each command are, and which commands there are. The grammar is this project's
-- own; the verbs of views are those of systemd-sysext(8) with `changes` and `explain`, those of updates are those of
-- systemd-sysupdate(8), those of portable services are those of portablectl(1).
--
--     init ARCH SCOPE [HIERS [HIERS]]
--     import-fs RES ABS
--     remove ABS1
--     sysext list | status | merge [--force] | unmerge | refresh [--force] | changes [--force] | explain [--force] ABS1
--     confext list | status | merge [--force] | unmerge | refresh [--force] | changes [--force] | explain [--force] ABS1
--     tree [ABS]
--     cat ABS1
--     compare TEXT TEXT
--     check
--     layer
--     migrate
--     batch
--     sample N
--     sysupdate [--component=NAME] list | check-new | update [VERSION] | vacuum | features
--     sysupdate components
--     portable list | inspect IMAGE [PREFIX ..] | is-attached NAME | detach NAME
--     portable attach IMAGE [PREFIX ..] | reattach IMAGE [PREFIX ..]
--     mark [K]
--     history [--changes G]
--     rollback G
--     forget G
--
-- ABS is a path after a `/`, ABS1 one other than the root; RES is a resource; TEXT is any word. SCOPE is `system` or
-- `initrd`. HIERS is 1 to 16 names with a `/` before each and a `:` between each two. N is 1 to 500, in decimal digits
-- without a leading zero, as K and G are: K is 1 to 16, G is 1 to 4,294,967,295. NAME is a name that doesn't begin with `-`, as
-- PREFIX is; after `--component=` it is the name of a component. VERSION is a version. IMAGE is such a name or ABS1, as EXT is.
-- `attach` and `reattach` take the options `[--runtime] [--profile=NAME] [--copy=MODE] [--extension=EXT ..]`, at any place among
-- the words after the verb; MODE is `copy`, `symlink`, `auto` or `mixed`.
use Rattle.std.specs.Prelude.{◌≡◌, ◌≢◌, ℕ, ◌<◌, ◌≤◌, Bool, true, false, List, [], ◌∷◌, ◌++◌, length, map, codes, decimal}
use Rattle.std.specs.Prelude.{Option, Some, None}
use Rattle.std.specs.List.{AllByRecursion, join_with_byte}
use Rattle.ext_lines.specs.Split.{Lacks}
use Rattle.ext_text.specs.Absolute.{absolute}
use Rattle.ext_text.specs.Arch.{arch_name}
use Rattle.ext_text.specs.Path.{IsPath, path_text}
use Rattle.ext_text.specs.Scope.{scope_name}
use Rattle.ext_text.specs.declared.extension.Extension.TheVariants as extensions
use Rattle.ext_text.specs.declared.scope.Scope.TheVariants as scopes
use Rattle.ext_host.specs.Host.{default_hierarchies}
use Rattle.ext_host.specs.Valid.{most_past}
use Rattle.ext_transfer.specs.Component.{IsComponent}
use Rattle.ext_vers.specs.Version.{IsVersion}
use Rattle.ext_cmd.specs.Fault.{IsFault}
use Rattle.ext_cmd.specs.Plain.{IsBelowRoot, IsPlainName}
use Rattle.ext_cmd.specs.Portable.{IsPortCommand, port_words}
use Rattle.ext_cmd.specs.Resource.{IsResource}
use Rattle.ext_cmd.specs.declared.command.Command.{Command}
use Rattle.ext_cmd.specs.declared.command.Command.TheVariants.{Init, ImportFs, Remove, Sysext, Confext}
use Rattle.ext_cmd.specs.declared.command.Command.TheVariants.{Tree, Cat, Compare, Check, Layer, Migrate, Batch, Sample}
use Rattle.ext_cmd.specs.declared.command.Command.TheVariants.{Sysupdate, Components, Portable}
use Rattle.ext_cmd.specs.declared.command.Command.TheVariants.{Mark, History, HistoryChanges, Rollback, Forget}
use Rattle.ext_cmd.specs.declared.command.UpdateVerb.{UpdateVerb}
use Rattle.ext_cmd.specs.declared.command.UpdateVerb.TheVariants as updates
use Rattle.ext_cmd.specs.declared.command.ViewCommand.{ViewCommand}
use Rattle.ext_cmd.specs.declared.command.ViewCommand.TheVariants as views
use Rattle.ext_cmd.specs.declared.command.Chosen.{Chosen}
use Rattle.ext_cmd.specs.declared.command.Chosen.TheVariants as chosen

-- a name after a `/`
abbrev pub slashed : List ℕ → List ℕ
slashed name = 47 ∷ name

-- a list of hierarchies: each name after a `/`, a `:` between each two
abbrev pub hierarchies_word : List (List ℕ) → List ℕ
hierarchies_word names = join_with_byte 58 (map slashed names)

-- the name of a component that isn't taken for an option
pub record IsPlainComponent (name : List ℕ) : Type 0 where
  pub plain : IsPlainName name
  pub component : IsComponent name

-- a name that stands in a list of hierarchies
pub record IsHierarchy (name : List ℕ) : Type 0 where
  pub plain : IsPlainName name
  pub no_colon : Lacks 58 name

-- the name is none of those
abbrev pub IsNone : List ℕ → List (List ℕ) → Type 0
IsNone name names = AllByRecursion (λ other. name ≢ other) names

-- none stands twice
abbrev pub AreDistinct : List (List ℕ) → Type 0
AreDistinct [] = Unit {0}
AreDistinct (name ∷ names) = IsNone name names × AreDistinct names

-- none of the first names is one of the others
abbrev pub AreDisjoint : List (List ℕ) → List (List ℕ) → Type 0
AreDisjoint names others = AllByRecursion (λ name. IsNone name others) names

-- 1 to 16 names of hierarchies, none twice
pub record IsHierarchyList (names : List (List ℕ)) : Type 0 where
  pub non_empty : 0 < length names
  pub at_most_16 : length names ≤ 16
  pub each : AllByRecursion IsHierarchy names
  pub distinct : AreDistinct names

-- the hierarchies of each class are such names, and no name is one of both; what is left out has its default
abbrev pub AreChosen : Chosen → Type 0
AreChosen chosen.Default = Unit {0}
AreChosen (chosen.Sysext names) = IsHierarchyList names × AreDisjoint names (default_hierarchies extensions.Confext)
AreChosen (chosen.Both names others) = IsHierarchyList names × IsHierarchyList others × AreDisjoint names others

-- a path of the host as one word
abbrev pub path_words : List (List ℕ) → List (List ℕ)
path_words path = absolute path ∷ []

-- the words of chosen hierarchies
abbrev pub chosen_words : Chosen → List (List ℕ)
chosen_words chosen.Default = []
chosen_words (chosen.Sysext names) = hierarchies_word names ∷ []
chosen_words (chosen.Both names others) = hierarchies_word names ∷ hierarchies_word others ∷ []

-- the option `--force`, where it is set
abbrev pub force_words : Bool → List (List ℕ)
force_words false = []
force_words true = codes "--force" ∷ []

-- the words of a command on extensions, after its class
abbrev pub view_words : ViewCommand → List (List ℕ)
view_words views.List = codes "list" ∷ []
view_words views.Status = codes "status" ∷ []
view_words (views.Merge force) = codes "merge" ∷ force_words force
view_words views.Unmerge = codes "unmerge" ∷ []
view_words (views.Refresh force) = codes "refresh" ∷ force_words force
view_words (views.Changes force) = codes "changes" ∷ force_words force
view_words (views.Explain force path) = codes "explain" ∷ force_words force ++ path_words path

-- the words of a path that may be left out
abbrev pub optional_words : Option (List (List ℕ)) → List (List ℕ)
optional_words None = []
optional_words (Some path) = path_words path

-- the option of a component
abbrev pub component_word : List ℕ → List ℕ
component_word name = codes "--component=" ++ name

-- the option of a component, where one is chosen
abbrev pub component_words : Option (List ℕ) → List (List ℕ)
component_words None = []
component_words (Some name) = component_word name ∷ []

-- the words of a version that may be left out
abbrev pub version_words : Option (List ℕ) → List (List ℕ)
version_words None = []
version_words (Some version) = version ∷ []

-- the word of how many marks stay, which may be left out
abbrev pub keep_words : Option ℕ → List (List ℕ)
keep_words None = []
keep_words (Some keep) = decimal keep ∷ []

-- the number of a mark's generation as one word
abbrev pub mark_words : ℕ → List (List ℕ)
mark_words mark = decimal mark ∷ []

-- the words of what is asked of updates
abbrev pub update_words : UpdateVerb → List (List ℕ)
update_words updates.List = codes "list" ∷ []
update_words updates.CheckNew = codes "check-new" ∷ []
update_words (updates.Update version) = codes "update" ∷ version_words version
update_words updates.Vacuum = codes "vacuum" ∷ []
update_words updates.Features = codes "features" ∷ []

-- the words of a command
abbrev pub command_words : Command → List (List ℕ)
command_words (Init arch scope hierarchies) = codes "init" ∷ arch_name arch ∷ scope_name scope ∷ chosen_words hierarchies
command_words (ImportFs resource path) = codes "import-fs" ∷ path_text resource ∷ path_words path
command_words (Remove path) = codes "remove" ∷ path_words path
command_words (Sysext view) = codes "sysext" ∷ view_words view
command_words (Confext view) = codes "confext" ∷ view_words view
command_words (Tree path) = codes "tree" ∷ optional_words path
command_words (Cat path) = codes "cat" ∷ path_words path
command_words (Compare a b) = codes "compare" ∷ a ∷ b ∷ []
command_words Check = codes "check" ∷ []
command_words Layer = codes "layer" ∷ []
command_words Migrate = codes "migrate" ∷ []
command_words Batch = codes "batch" ∷ []
command_words (Sample images) = codes "sample" ∷ decimal images ∷ []
command_words (Sysupdate component verb) = codes "sysupdate" ∷ component_words component ++ update_words verb
command_words Components = codes "sysupdate" ∷ codes "components" ∷ []
command_words (Portable port) = codes "portable" ∷ port_words port
command_words (Mark keep) = codes "mark" ∷ keep_words keep
command_words History = codes "history" ∷ []
command_words (HistoryChanges mark) = codes "history" ∷ codes "--changes" ∷ mark_words mark
command_words (Rollback mark) = codes "rollback" ∷ mark_words mark
command_words (Forget mark) = codes "forget" ∷ mark_words mark

-- no path, or one of the host
abbrev pub IsOptionalPath : Option (List (List ℕ)) → Type 0
IsOptionalPath None = Unit {0}
IsOptionalPath (Some path) = IsPath path

-- no component, or one that isn't taken for an option
abbrev pub IsOptionalComponent : Option (List ℕ) → Type 0
IsOptionalComponent None = Unit {0}
IsOptionalComponent (Some name) = IsPlainComponent name

-- no version, or one
abbrev pub IsOptionalVersion : Option (List ℕ) → Type 0
IsOptionalVersion None = Unit {0}
IsOptionalVersion (Some version) = IsVersion version

-- what may be asked of updates: a version that is named is one
abbrev pub IsUpdateAsk : UpdateVerb → Type 0
IsUpdateAsk updates.List = Unit {0}
IsUpdateAsk updates.CheckNew = Unit {0}
IsUpdateAsk (updates.Update version) = IsOptionalVersion version
IsUpdateAsk updates.Vacuum = Unit {0}
IsUpdateAsk updates.Features = Unit {0}

-- a number of at least 1, and so many at the most
abbrev pub IsCountTo : ℕ → ℕ → Type 0
IsCountTo most count = (1 ≤ count) × (count ≤ most)

-- the most images that a sample has
abbrev pub most_sample_images : ℕ
most_sample_images = 500

-- how many images a sample may have
abbrev pub IsImages : ℕ → Type 0
IsImages = IsCountTo most_sample_images

-- how many marks may be told to stay
abbrev pub IsKeep : ℕ → Type 0
IsKeep = IsCountTo most_past

-- nothing is told of it, or such a number
abbrev pub IsOptionalKeep : Option ℕ → Type 0
IsOptionalKeep None = Unit {0}
IsOptionalKeep (Some keep) = IsKeep keep

-- the highest number of a generation
abbrev pub most_generation : ℕ
most_generation = 4294967295

-- the number of a generation that may have a mark
abbrev pub IsMarkNumber : ℕ → Type 0
IsMarkNumber = IsCountTo most_generation

-- what may be done with extensions: a path that is named isn't the root
abbrev pub IsViewCommand : ViewCommand → Type 0
IsViewCommand views.List = Unit {0}
IsViewCommand views.Status = Unit {0}
IsViewCommand (views.Merge force) = Unit {0}
IsViewCommand views.Unmerge = Unit {0}
IsViewCommand (views.Refresh force) = Unit {0}
IsViewCommand (views.Changes force) = Unit {0}
IsViewCommand (views.Explain force path) = IsBelowRoot path

-- the arguments are what the grammar allows
abbrev pub IsWellFormed : Command → Type 0
IsWellFormed (Init arch scope hierarchies) = (scope ≢ scopes.Portable) × AreChosen hierarchies
IsWellFormed (ImportFs resource path) = IsResource resource × IsPath path
IsWellFormed (Remove path) = IsBelowRoot path
IsWellFormed (Sysext view) = IsViewCommand view
IsWellFormed (Confext view) = IsViewCommand view
IsWellFormed (Tree path) = IsOptionalPath path
IsWellFormed (Cat path) = IsBelowRoot path
IsWellFormed (Compare a b) = Unit {0}
IsWellFormed Check = Unit {0}
IsWellFormed Layer = Unit {0}
IsWellFormed Migrate = Unit {0}
IsWellFormed Batch = Unit {0}
IsWellFormed (Sample images) = IsImages images
IsWellFormed (Sysupdate component verb) = IsOptionalComponent component × IsUpdateAsk verb
IsWellFormed Components = Unit {0}
IsWellFormed (Portable port) = IsPortCommand port
IsWellFormed (Mark keep) = IsOptionalKeep keep
IsWellFormed History = Unit {0}
IsWellFormed (HistoryChanges mark) = IsMarkNumber mark
IsWellFormed (Rollback mark) = IsMarkNumber mark
IsWellFormed (Forget mark) = IsMarkNumber mark

-- the words are a command
pub record IsCommand (words : List (List ℕ)) : Type 0 where
  pub command : Command
  pub well_formed : IsWellFormed command
  pub same : words ≡ command_words command

-- the words are no command, and this is the place of their first fault, counted from 1: the least place such that no command
-- begins with the words up to it; where a command begins with all of them, the place after the last
abbrev pub IsUsage : List (List ℕ) → ℕ → Type 0
IsUsage words place = IsFault IsCommand words 1 place
