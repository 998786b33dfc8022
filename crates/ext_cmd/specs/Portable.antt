-- The words after `portable`, and what they ask. The commands and their options are those of portablectl(1), the grammar is this
-- project's own.
--
--     list
--     inspect IMAGE [PREFIX ..]
--     is-attached NAME
--     attach IMAGE [PREFIX ..]
--     detach NAME
--     reattach IMAGE [PREFIX ..]
--
-- Among the words after `attach` and `reattach` stand options, at any place: `--runtime`, `--profile=NAME`, `--copy=MODE` and
-- `--extension=EXT`. The first word that isn't an option is IMAGE, each later one is a PREFIX. A word that begins with `-` is an
-- option or nothing. NAME and PREFIX are names, IMAGE and EXT a name, or a path after a `/` other than the root. MODE is `copy`,
-- `symlink`, `auto` or `mixed`.
--
-- Each option but `--extension=` stands at most once, that one at most 16 times, each time with another EXT. It doesn't stand
-- beside `--copy=symlink`.
use Rattle.std.specs.Prelude.{◌≡◌, ℕ, ◌<◌, ◌≤◌, Bool, true, false, List, [], ◌∷◌, ◌++◌, length, map, codes}
use Rattle.std.specs.List.{AllByRecursion}
use Rattle.ext_text.specs.Absolute.{absolute}
use Rattle.ext_units.specs.declared.image.Image.{Image}
use Rattle.ext_units.specs.declared.image.Image.TheVariants as images
use Rattle.ext_added.specs.declared.ask.Ask.{Ask}
use Rattle.ext_added.specs.declared.ask.CopyMode.{CopyMode}
use Rattle.ext_added.specs.declared.ask.CopyMode.TheVariants as modes
use Rattle.ext_cmd.specs.Plain.{IsBelowRoot, IsPlainName}
use Rattle.ext_cmd.specs.declared.portable.AttachOption.{AttachOption}
use Rattle.ext_cmd.specs.declared.portable.AttachOption.TheVariants.{Runtime, Profile, Copy, Extension}
use Rattle.ext_cmd.specs.declared.portable.AttachWord.{AttachWord}
use Rattle.ext_cmd.specs.declared.portable.AttachWord.TheVariants as items
use Rattle.ext_cmd.specs.declared.portable.AttachWords.{AttachWords}
use Rattle.ext_cmd.specs.declared.portable.PortCommand.{PortCommand}
use Rattle.ext_cmd.specs.declared.portable.PortCommand.TheVariants as ports

-- an image as it is given: its name, or its path after a `/`
abbrev pub image_word : Image → List ℕ
image_word (images.Named name) = name
image_word (images.At path) = absolute path

-- the word of what is copied
abbrev pub mode_word : CopyMode → List ℕ
mode_word modes.Copy = codes "copy"
mode_word modes.Symlink = codes "symlink"
mode_word modes.Auto = codes "auto"
mode_word modes.Mixed = codes "mixed"

-- the word of an option
abbrev pub option_word : AttachOption → List ℕ
option_word Runtime = codes "--runtime"
option_word (Profile name) = codes "--profile=" ++ name
option_word (Copy mode) = codes "--copy=" ++ mode_word mode
option_word (Extension image) = codes "--extension=" ++ image_word image

-- the word of a prefix, or of an option after the image
abbrev pub attach_word : AttachWord → List ℕ
attach_word (items.Prefix name) = name
attach_word (items.Option option) = option_word option

-- the words after `attach` and `reattach`
abbrev pub attach_words : AttachWords → List (List ℕ)
attach_words asked = map option_word asked.before ++ image_word asked.image ∷ map attach_word asked.after

-- the words after `portable`
abbrev pub port_words : PortCommand → List (List ℕ)
port_words ports.List = codes "list" ∷ []
port_words (ports.Inspect image prefixes) = codes "inspect" ∷ image_word image ∷ prefixes
port_words (ports.IsAttached name) = codes "is-attached" ∷ name ∷ []
port_words (ports.Attach asked) = codes "attach" ∷ attach_words asked
port_words (ports.Detach name) = codes "detach" ∷ name ∷ []
port_words (ports.Reattach asked) = codes "reattach" ∷ attach_words asked

-- the options among options and prefixes
abbrev pub options_among : List AttachWord → List AttachOption
options_among [] = []
options_among (items.Prefix name ∷ more) = options_among more
options_among (items.Option option ∷ more) = option ∷ options_among more

-- and the prefixes
abbrev pub prefixes_among : List AttachWord → List (List ℕ)
prefixes_among [] = []
prefixes_among (items.Prefix name ∷ more) = name ∷ prefixes_among more
prefixes_among (items.Option option ∷ more) = prefixes_among more

-- all options: those before the image, and then those after it
abbrev pub options_of : AttachWords → List AttachOption
options_of asked = asked.before ++ options_among asked.after

-- the prefixes, in their order
abbrev pub asked_prefixes : AttachWords → List (List ℕ)
asked_prefixes asked = prefixes_among asked.after

-- the extensions among options
abbrev pub extensions_among : List AttachOption → List Image
extensions_among [] = []
extensions_among (Runtime ∷ options) = extensions_among options
extensions_among (Profile name ∷ options) = extensions_among options
extensions_among (Copy mode ∷ options) = extensions_among options
extensions_among (Extension image ∷ options) = image ∷ extensions_among options

-- the extensions, in their order
abbrev pub extensions_of : AttachWords → List Image
extensions_of asked = extensions_among (options_of asked)

-- the profile that counts where none is named
abbrev pub default_profile : List ℕ
default_profile = codes "default"

-- the profile that options name, or the one that counts where they name none
abbrev pub profile_among : List AttachOption → List ℕ
profile_among [] = default_profile
profile_among (Runtime ∷ options) = profile_among options
profile_among (Profile name ∷ options) = name
profile_among (Copy mode ∷ options) = profile_among options
profile_among (Extension image ∷ options) = profile_among options

-- what options tell to copy, or what is copied where they tell nothing
abbrev pub mode_among : List AttachOption → CopyMode
mode_among [] = modes.Auto
mode_among (Runtime ∷ options) = mode_among options
mode_among (Profile name ∷ options) = mode_among options
mode_among (Copy mode ∷ options) = mode
mode_among (Extension image ∷ options) = mode_among options

-- whether an option is among these by which it lasts until the host stops
abbrev pub has_runtime : List AttachOption → Bool
has_runtime [] = false
has_runtime (Runtime ∷ options) = true
has_runtime (Profile name ∷ options) = has_runtime options
has_runtime (Copy mode ∷ options) = has_runtime options
has_runtime (Extension image ∷ options) = has_runtime options

-- which image is to be attached, and how
abbrev pub ask_of : AttachWords → Ask
ask_of asked =
    record {
      image = asked.image;
      prefixes = asked_prefixes asked;
      profile = profile_among (options_of asked);
      runtime = has_runtime (options_of asked);
      copy = mode_among (options_of asked);
    }

-- an image: a name that isn't taken for an option, or a path other than the root
abbrev pub IsImageOfWords : Image → Type 0
IsImageOfWords (images.Named name) = IsPlainName name
IsImageOfWords (images.At path) = IsBelowRoot path

-- what is named by an option is what it has to be
abbrev pub IsOption : AttachOption → Type 0
IsOption Runtime = Unit {0}
IsOption (Profile name) = IsPlainName name
IsOption (Copy mode) = Unit {0}
IsOption (Extension image) = IsImageOfWords image

-- and what is named by a word after the image
abbrev pub IsAttachWord : AttachWord → Type 0
IsAttachWord (items.Prefix name) = IsPlainName name
IsAttachWord (items.Option option) = IsOption option

-- two options that don't stand together: two of one kind, but two extensions only where they are the same; and an extension
-- beside `--copy=symlink`
abbrev pub Clash : AttachOption → AttachOption → Type 0
Clash Runtime Runtime = Unit {0}
Clash (Profile name) (Profile other) = Unit {0}
Clash (Copy mode) (Copy other) = Unit {0}
Clash (Extension image) (Extension other) = image ≡ other
Clash (Extension image) (Copy mode) = mode ≡ modes.Symlink
Clash (Copy mode) (Extension image) = mode ≡ modes.Symlink
Clash _ _ = ⊥

-- no two of them clash
abbrev pub AreWithoutClash : List AttachOption → Type 0
AreWithoutClash [] = Unit {0}
AreWithoutClash (option ∷ options) = AllByRecursion (λ later. ¬ Clash option later) options × AreWithoutClash options

-- the most extensions
abbrev pub most_extensions : ℕ
most_extensions = 16

-- options that may stand in one command
pub record AreOptions (options : List AttachOption) : Type 0 where
  pub each : AllByRecursion IsOption options
  pub apart : AreWithoutClash options
  pub few : length (extensions_among options) ≤ most_extensions

-- what may stand after `attach` and `reattach`
pub record AreAttachWords (asked : AttachWords) : Type 0 where
  pub options : AreOptions (options_of asked)
  pub image : IsImageOfWords asked.image
  pub prefixes : AllByRecursion IsPlainName (asked_prefixes asked)

-- what may be done with portable services
abbrev pub IsPortCommand : PortCommand → Type 0
IsPortCommand ports.List = Unit {0}
IsPortCommand (ports.Inspect image prefixes) = IsImageOfWords image × AllByRecursion IsPlainName prefixes
IsPortCommand (ports.IsAttached name) = IsPlainName name
IsPortCommand (ports.Attach asked) = AreAttachWords asked
IsPortCommand (ports.Detach name) = IsPlainName name
IsPortCommand (ports.Reattach asked) = AreAttachWords asked

-- an option that names an extension
abbrev pub is_extension : AttachOption → Bool
is_extension Runtime = false
is_extension (Profile name) = false
is_extension (Copy mode) = false
is_extension (Extension image) = true

-- none of the options clashes with a later one
abbrev pub NoneClashes : List AttachOption → AttachOption → Type 0
NoneClashes options later = AllByRecursion (λ option. ¬ Clash option later) options

-- there is room for a later one, where it is an extension
abbrev pub HasRoom : List AttachOption → AttachOption → Type 0
HasRoom options later = is_extension later ≡ true → length (extensions_among options) < most_extensions

-- the option may stand after these
pub record MayJoin (options : List AttachOption) (option : AttachOption) : Type 0 where
  pub is : IsOption option
  pub apart : NoneClashes options option
  pub room : HasRoom options option
