-- Where in the depot a resource stands: its manifest, its tree text and itself, and the files below it.
use Rattle.std.specs.Prelude.{◌≡◌, ℕ, IsTrue, List, [], ◌∷◌, ◌++◌, Result, Ok, Err}
use Rattle.std.specs.List.{AllByRecursion}
use Rattle.ext_text.specs.Path.{IsPath}
use Rattle.ext_tree.specs.Tree.{Entries, is_file}
use Rattle.ext_tree.specs.declared.entry.Entry.{Entry}
use Rattle.ext_host.specs.Held.{HeldFile}
use Rattle.ext_published.specs.Asked.{AskedOf}
use Rattle.ext_published.specs.Names.{coming_manifest_name, manifest_name, tree_text_name}
use Rattle.ext_published.specs.declared.places.Places.{Places}
use Rattle.ext_published.specs.declared.places.PlacesErr.{PlacesErr}
use Rattle.ext_published.specs.declared.places.PlacesErr.TheVariants.{OutOfMemory, Limit}

-- a name in the folder of the depot
abbrev pub in_depot_folder : AskedOf → List ℕ → List (List ℕ)
in_depot_folder asked name = asked.folder ++ name ∷ []

-- the manifest
abbrev pub published_manifest_path : AskedOf → List (List ℕ)
published_manifest_path asked = in_depot_folder asked manifest_name

-- the manifest that is to be renamed to it
abbrev pub coming_manifest_path : AskedOf → List (List ℕ)
coming_manifest_path asked = in_depot_folder asked coming_manifest_name

-- the tree text of a directory
abbrev pub tree_text_path : AskedOf → List (List ℕ)
tree_text_path asked = in_depot_folder asked (tree_text_name asked.name)

-- the resource itself: a file, or the folder of a directory's files
abbrev pub published_resource_path : AskedOf → List (List ℕ)
published_resource_path asked = in_depot_folder asked asked.name

-- all of them
abbrev pub places_in : AskedOf → List (List (List ℕ))
places_in asked = published_manifest_path asked ∷ coming_manifest_path asked ∷ tree_text_path asked ∷ published_resource_path asked ∷ []

-- the paths are these
pub record ArePlaces (asked : AskedOf) (places : Places) : Type 0 where
  pub manifest : places.manifest ≡ published_manifest_path asked
  pub coming : places.coming ≡ coming_manifest_path asked
  pub text : places.text ≡ tree_text_path asked
  pub resource : places.resource ≡ published_resource_path asked

-- a longer path, where it is within the limits
abbrev pub JoinsPath : List (List ℕ) → Result (List (List ℕ)) PlacesErr → Type 0
JoinsPath longer (Ok path) = IsPath longer × (path ≡ longer)
JoinsPath longer (Err OutOfMemory) = Unit {0}
JoinsPath longer (Err Limit) = ¬ IsPath longer

-- the paths, all within the limits of a path, or that not all are
abbrev pub GivesPlaces : AskedOf → Result Places PlacesErr → Type 0
GivesPlaces asked (Ok places) = ArePlaces asked places × AllByRecursion IsPath (places_in asked)
GivesPlaces asked (Err OutOfMemory) = Unit {0}
GivesPlaces asked (Err Limit) = ¬ AllByRecursion IsPath (places_in asked)

-- the path of a file below another path is within the limits
abbrev pub FitsBelow : List (List ℕ) → List (List ℕ) × Entry HeldFile → Type 0
FitsBelow at e = IsTrue (is_file e.1) → IsPath (at ++ e.0)

-- whether the path of each file of a tree, below another path, is within the limits
abbrev pub ChecksFiles : List (List ℕ) → Entries HeldFile → Result (Unit {0}) PlacesErr → Type 0
ChecksFiles at es (Ok _) = AllByRecursion (FitsBelow at) es
ChecksFiles at es (Err OutOfMemory) = Unit {0}
ChecksFiles at es (Err Limit) = ¬ AllByRecursion (FitsBelow at) es

-- the same of one entry
abbrev pub ChecksEntry : List (List ℕ) → List (List ℕ) × Entry HeldFile → Result (Unit {0}) PlacesErr → Type 0
ChecksEntry at e (Ok _) = FitsBelow at e
ChecksEntry at e (Err OutOfMemory) = Unit {0}
ChecksEntry at e (Err Limit) = ¬ FitsBelow at e
