-- The laws of configuration files and components.
use Rattle.std.specs.Prelude.{◌≡◌, ℕ, List, Option, Some}
use Rattle.std.specs.FinMap.{find}
use Rattle.ext_attributes.specs.Attributes.{OfFile}
use Rattle.ext_lines.specs.ByteOrder.{bytes_cmp}
use Rattle.ext_tree.specs.Tree.{Entries, lookup}
use Rattle.ext_tree.specs.declared.entry.Entry.TheVariants.{File}
use Rattle.ext_configs.specs.Components.{AreComponents}
use Rattle.ext_configs.specs.Configs.{AreConfigs, files_by_name}
use Rattle.ext_configs.specs.declared.files.ConfigFile.{ConfigFile}
use Rattle.ext_configs.specs.declared.kind.ConfigKind.{ConfigKind}

-- two lists that both are the configuration files have the same names and contents
abbrev pub OneConfigList : {C : Type 0} → (C → ℕ) → Type 0
OneConfigList {C} size =
    (es : Entries C) (component : Option (List ℕ)) (kind : ConfigKind) (files other : List (ConfigFile C))
    → AreConfigs size es component kind files
    → AreConfigs size es component kind other
    → files_by_name files ≡ files_by_name other

-- two lists that both are the components are equal
abbrev pub OneComponentList : Type 0 → Type 0
OneComponentList C = (es : Entries C) (names other : List (List ℕ)) → AreComponents es names → AreComponents es other → names ≡ other

-- each content is that of a file of the base
abbrev pub ConfigsAreFiles : {C : Type 0} → (C → ℕ) → Type 0
ConfigsAreFiles {C} size =
    (es : Entries C) (component : Option (List ℕ)) (kind : ConfigKind) (files : List (ConfigFile C))
    → AreConfigs size es component kind files
    → (name : List ℕ) (content : C) → find bytes_cmp name (files_by_name files) ≡ Some content
    → (path : List (List ℕ)) × (attributes : OfFile) × (lookup es path ≡ Some (File attributes content))
