-- What the search for configuration files keeps, visit by visit.
use Rattle.std.specs.Prelude.{◌≡◌, ◌⊎◌, ℕ, ◌<◌, true, false, if◌then◌else◌, List, [], ◌∷◌, ◌++◌, IsTrue, Option, Some, None, is_some}
use Rattle.std.specs.BTreeMap.{BTreeMap, get, is_at}
use Rattle.ext_lines.specs.ByteOrder.{bytes_cmp}
use Rattle.ext_tree.specs.Tree.{Entries, lookup}
use Rattle.ext_find.specs.Content.{is_mask_at}
use Rattle.ext_find.specs.HostRelease.{LeadsToContent}
use Rattle.ext_configs.specs.Configs.{CountsIn, IsConfigEntry, IsFirstConfig}
use Rattle.ext_configs.specs.declared.entry.ConfigEntry.{ConfigEntry}
use Rattle.ext_configs.specs.declared.entry.ConfigEntry.TheVariants.{Mask, Content}
use Rattle.ext_configs.specs.declared.files.ConfigFile.{ConfigFile}
use Rattle.ext_configs.specs.declared.kind.ConfigKind.{ConfigKind}

-- what the entry at the path says: that it is a mask, or the content of the file to which it leads
abbrev pub SaysOfFile : {C : Type 0} → (C → ℕ) → Entries C → List (List ℕ) → ConfigEntry C → Type 0
SaysOfFile size es path Mask = is_mask_at size (lookup es path) ≡ true
SaysOfFile size es path (Content content) = (is_mask_at size (lookup es path) ≡ false) × LeadsToContent es path content.now

-- what the entry of the directory says where it counts, or that it doesn't
abbrev pub EntryAt : {C : Type 0} → (C → ℕ) → Entries C → ConfigKind → List (List ℕ) → List ℕ → Option (ConfigEntry C) → Type 0
EntryAt size es kind directory name None = ¬ CountsIn size es kind directory name
EntryAt size es kind directory name (Some entry) = CountsIn size es kind directory name × SaysOfFile size es (directory ++ name ∷ []) entry

-- what is kept for a name
abbrev pub kept_for : {C : Type 0} → BTreeMap (List ℕ) (ConfigEntry C) → List ℕ → Option (ConfigEntry C)
kept_for m name = get bytes_cmp m name

-- what an entry says is kept where its name has none
abbrev pub KeepsEntry : {C : Type 0}
    → BTreeMap (List ℕ) (ConfigEntry C) → BTreeMap (List ℕ) (ConfigEntry C) → List ℕ → Option (ConfigEntry C) → Type 0
KeepsEntry old new name None = (q : List ℕ) → kept_for new q ≡ kept_for old q
KeepsEntry old new name (Some entry) =
    (q : List ℕ) → kept_for new q
    ≡ (if is_some (kept_for old name) then kept_for old q
    else if is_at (bytes_cmp name) q then Some entry
    else kept_for old q)

-- the entries of the folders before one
abbrev pub in_folders_before : ℕ → ℕ → List ℕ → Type 0
in_folders_before index visited name = visited < index

-- and those of this one whose names are not left
abbrev pub in_names_passed : {C : Type 0} → ℕ → List (List ℕ) → Entries C → ℕ → List ℕ → Type 0
in_names_passed index directory rest visited name =
    (visited < index) ⊎ ((visited ≡ index) × (lookup rest (directory ++ name ∷ []) ≡ None))

-- the file of this name, where what its entry says is no mask
abbrev pub file_with : {C : Type 0} → List ℕ → ConfigEntry C → Option (ConfigFile C)
file_with name Mask = None
file_with name (Content content) = Some (record { name = name; content = content })

module _ {C : Type 0} (size : C → ℕ) (es : Entries C) (component : Option (List ℕ)) (kind : ConfigKind) where
  -- what the first entry of this name that counts says
  pub record SaysFirst (name : List ℕ) (entry : ConfigEntry C) : Type 0 where
    pub index : ℕ
    pub first : IsFirstConfig size es component kind index name
    pub says : SaysOfFile size es (first.config.directory ++ name ∷ []) entry

  -- after the visits that were made
  pub record KeepsConfigs (made : ℕ → List ℕ → Type 0) (m : BTreeMap (List ℕ) (ConfigEntry C)) : Type 0 where
    pub kept : (name : List ℕ) (entry : ConfigEntry C) → kept_for m name ≡ Some entry → SaysFirst name entry
    pub all : (index : ℕ) (name : List ℕ) → made index name → IsConfigEntry size es component kind index name
        → IsTrue (is_some (kept_for m name))
