-- The switch from the old manifest to the new one, which is renamed over it: what has to stand before, and what a stop leaves.
use Rattle.std.specs.Prelude.{◌≡◌, ◌⊎◌, ℕ, Bool, true, ◌||◌, List, ◌++◌, Some, Result, Ok, Err, if◌then◌else◌}
use Rattle.std.specs.Ordering.{eq_by_cmp}
use Rattle.ext_text.specs.Path.{is_prefix, path_cmp}
use Rattle.ext_disk.specs.Disk.{Tree, Places, Told, file, is_durable, is_folder, is_no_folder, now}
use Rattle.ext_disk.specs.Calls.{IsFree}
use Rattle.ext_disk.specs.Since.{Since}
use Rattle.ext_host.specs.Held.{HeldFile}
use Rattle.ext_published.specs.Asked.{AskedOf}
use Rattle.ext_published.specs.Payload.{HasHeldFileAt}
use Rattle.ext_published.specs.Places.{coming_manifest_path, published_manifest_path, published_resource_path, tree_text_path}
use Rattle.ext_published.specs.Published.{IsPublished}
use Rattle.ext_published.specs.declared.payload.Payload.{Payload}
use Rattle.ext_published.specs.declared.payload.Payload.TheVariants.{Directory, File}
use Rattle.ext_publish.specs.Out.{files_standing}
use Rattle.ext_publish.specs.declared.stop.Stop.{Stop}

-- the tree with this manifest
abbrev pub with_manifest_text : AskedOf → List ℕ → Tree → Tree
with_manifest_text asked text t = λ p. if eq_by_cmp path_cmp (published_manifest_path asked) p then Some (file text) else t p

-- it holds of each path that a resource has beside the manifest: of a directory's tree text and each of its files, or of the file
abbrev pub EachResource : (List (List ℕ) → Type 0) → AskedOf → Payload → Type 0
EachResource P asked (Directory tree) = P (tree_text_path asked) × ((path : List (List ℕ)) (held : HeldFile) → HasHeldFileAt tree path held → P (published_resource_path asked ++ path))
EachResource P asked (File held) = P (published_resource_path asked)

-- each of them is durable
abbrev pub IsResourceDurable : Places → AskedOf → Payload → Type 0
IsResourceDurable d asked payload = EachResource (λ p. is_durable d p ≡ true) asked payload

-- With the new manifest, what is asked is published, and all of it is durable; so are the old manifest and the folder.
pub record IsReadyFor (d : Places) (asked : AskedOf) (payload : Payload) (bytes_of : HeldFile → List ℕ) (text : List ℕ) : Type 0 where
  pub published : IsPublished (files_standing (with_manifest_text asked text (now d))) asked payload bytes_of
  pub resource : IsResourceDurable d asked payload
  pub manifest : is_durable d (published_manifest_path asked) ≡ true
  pub folder : is_durable d asked.folder ≡ true

-- the switch may be made: the folder stands, nothing where the new manifest is made, and no folder where the old one is
pub record IsSwitchable (asked : AskedOf) (d : Places) : Type 0 where
  pub folder : is_folder (d asked.folder).node ≡ true
  pub coming : IsFree d (coming_manifest_path asked)
  pub manifest : is_no_folder (d (published_manifest_path asked)).node ≡ true

-- where the switch may change what stands
abbrev pub is_switched_at : AskedOf → List (List ℕ) → Bool
is_switched_at asked p = is_prefix (coming_manifest_path asked) p || is_prefix (published_manifest_path asked) p

-- a stop leaves the old manifest, or the new one with all that it lists
abbrev pub IsLeftBySwitch : Tree → Tree → AskedOf → Payload → (HeldFile → List ℕ) → List ℕ → Type 0
IsLeftBySwitch before t asked payload bytes_of text =
    (t (published_manifest_path asked) ≡ before (published_manifest_path asked))
    ⊎ ((t (published_manifest_path asked) ≡ Some (file text)) × IsPublished (files_standing t) asked payload bytes_of)

-- done, it is published, and the manifest is durable, too
abbrev pub SwitchEnds : {T : Type 0} → Result T Stop → Places → AskedOf → Payload → (HeldFile → List ℕ) → Type 0
SwitchEnds (Ok _) e asked payload bytes_of =
    IsPublished (files_standing (now e)) asked payload bytes_of × IsResourceDurable e asked payload × (is_durable e (published_manifest_path asked) ≡ true)
SwitchEnds (Err stop) e asked payload bytes_of = Unit {0}

-- what the switch leaves of a folder that was ready for it, at its end and after a stop at any moment since it began
pub record Switches {T : Type 0} (result : Result T Stop) (asked : AskedOf) (text : List ℕ) (d e : Told) : Type 0 where
  pub ends : (payload : Payload) (bytes_of : HeldFile → List ℕ) → IsReadyFor d.places asked payload bytes_of text → SwitchEnds result e.places asked payload bytes_of
  pub stops : (payload : Payload) (bytes_of : HeldFile → List ℕ) → IsReadyFor d.places asked payload bytes_of text
      → (t : Tree) → Since e d.clock t → IsLeftBySwitch (now d.places) t asked payload bytes_of text
