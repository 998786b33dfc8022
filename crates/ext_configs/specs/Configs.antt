-- The configuration files that count: of each name the first entry that does, if it is no mask. The suffixes are those of
-- sysupdate.d(5) and sysupdate.features(5). Which entries count, and that any other hides nothing, is this project's own.
use Rattle.std.specs.Prelude.{◌≡◌, ◌⊎◌, ℕ, ◌<◌, nat_eq, true, false, List, [], ◌∷◌, ◌++◌, codes, map, IsTrue, Option, Some, is_some}
use Rattle.std.specs.FinMap.{find, is_sorted}
use Rattle.std.specs.List.{ends_with}
use Rattle.ext_lines.specs.ByteOrder.{bytes_cmp}
use Rattle.ext_tree.specs.Tree.{Entries, lookup}
use Rattle.ext_walk.specs.Leads.{LeadsTo}
use Rattle.ext_find.specs.Content.{is_file_at, is_mask_at}
use Rattle.ext_find.specs.Ending.{is_hidden}
use Rattle.ext_find.specs.HostRelease.{LeadsToContent}
use Rattle.ext_configs.specs.Folders.{OpensFolder}
use Rattle.ext_configs.specs.declared.files.ConfigFile.{ConfigFile}
use Rattle.ext_configs.specs.declared.kind.ConfigKind.{ConfigKind}
use Rattle.ext_configs.specs.declared.kind.ConfigKind.TheVariants.{Transfer, Feature}

-- what the names of configuration files end in
abbrev pub config_suffix : ConfigKind → List ℕ
config_suffix Transfer = codes ".transfer"
config_suffix Feature = codes ".feature"

-- contents with the names of their files as keys
abbrev pub files_by_name : {C : Type 0} → List (ConfigFile C) → List (List ℕ × C)
files_by_name files = map (λ file. (file.name, file.content.now)) files

module _ {C : Type 0} (size : C → ℕ) (es : Entries C) (kind : ConfigKind) where
  -- the entry of this name in the directory counts
  pub record CountsIn (directory : List (List ℕ)) (name : List ℕ) : Type 0 where
    pub there : IsTrue (is_some (lookup es (directory ++ name ∷ [])))
    pub shown : is_hidden name ≡ false
    pub suffix : ends_with nat_eq name (config_suffix kind) ≡ true
    pub counts : (is_mask_at size (lookup es (directory ++ name ∷ [])) ≡ true) ⊎ LeadsTo is_file_at es (directory ++ name ∷ [])

module _ {C : Type 0} (size : C → ℕ) (es : Entries C) (component : Option (List ℕ)) (kind : ConfigKind) where
  -- the entry of this name in the folder with this index counts
  pub record IsConfigEntry (index : ℕ) (name : List ℕ) : Type 0 where
    pub directory : List (List ℕ)
    pub opens : OpensFolder es component index directory
    pub entry : CountsIn size es kind directory name

  -- and none of this name in an earlier folder does
  pub record IsFirstConfig (index : ℕ) (name : List ℕ) : Type 0 where
    pub config : IsConfigEntry index name
    pub first : (earlier : ℕ) → earlier < index → ¬ IsConfigEntry earlier name

  -- the first entry of this name that counts is no mask, and leads to a file of this content
  pub record IsConfig (name : List ℕ) (content : C) : Type 0 where
    pub index : ℕ
    pub first : IsFirstConfig index name
    pub unmasked : is_mask_at size (lookup es (first.config.directory ++ name ∷ [])) ≡ false
    pub leads : LeadsToContent es (first.config.directory ++ name ∷ []) content

  -- the files, each once, by the bytes of their names
  pub record AreConfigs (files : List (ConfigFile C)) : Type 0 where
    pub sorted : IsTrue (is_sorted bytes_cmp (files_by_name files))
    pub each : (name : List ℕ) (content : C) → find bytes_cmp name (files_by_name files) ≡ Some content → IsConfig name content
    pub whole : (name : List ℕ) (content : C) → IsConfig name content → find bytes_cmp name (files_by_name files) ≡ Some content
