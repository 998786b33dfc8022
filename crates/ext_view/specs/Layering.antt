-- What the code makes of chosen images.
use Rattle.std.specs.Prelude.{◌≡◌, ℕ, ◌+◌, ◌<◌, ◌≤◌, false, List, [], ◌∷◌, ◌++◌, length, reverse, IsTrue, Option, Some, None, Result, Ok, Err}
use Rattle.std.specs.List.{AllByRecursion}
use Rattle.ext_text.specs.declared.extension.Extension.{Extension}
use Rattle.ext_text.specs.declared.which.Which.{Which}
use Rattle.ext_text.specs.declared.which.Which.TheVariants as limits
use Rattle.ext_tree.specs.Tree.{Entries, IsTree, lookup, most_entries}
use Rattle.ext_tree.specs.declared.entry.Entry.{Entry}
use Rattle.ext_layer.specs.Layered.{IsVisible}
use Rattle.ext_vers.specs.Version.{order_of}
use Rattle.ext_host.specs.Held.{HeldFile}
use Rattle.ext_host.specs.Host.{is_in}
use Rattle.ext_host.specs.Limits.{PassLimit}
use Rattle.ext_host.specs.Valid.{AreAscending, all_bytes, most_bytes}
use Rattle.ext_host.specs.declared.host.Host.{Host}
use Rattle.ext_host.specs.declared.host.Plan.{Plan}
use Rattle.ext_view.specs.Inside.{inside}
use Rattle.ext_view.specs.Parts.{LeadsItem}
use Rattle.ext_view.specs.Merging.{PlansView}
use Rattle.ext_view.specs.View.{AreImagesOf, AreViewTrees, HasView, names_of}
use Rattle.ext_view.specs.declared.outcome.Merge.{Merge}
use Rattle.ext_view.specs.declared.surveyed.SurveyItem.{SurveyItem}
use Rattle.ext_view.specs.declared.errors.ViewErr.{ViewErr}
use Rattle.ext_view.specs.declared.errors.ViewErr.TheVariants as errors

-- the places of the items lead to images, and their names are in the order of versions
pub record AreChosen (base : Entries HeldFile) (items : List SurveyItem) : Type 0 where
  pub lead : AllByRecursion (LeadsItem base) items
  pub order : AreAscending order_of (names_of items)

-- what the images show at the hierarchies over the base: it lies in them, and has there what is visible
pub record IsView (hierarchies : List (List ℕ)) (base : Entries HeldFile) (images : List (Entries HeldFile))
    (view : Entries HeldFile) : Type 0 where
  pub tree : IsTree view
  pub within : (path : List (List ℕ)) → is_in hierarchies path ≡ false → lookup view path ≡ None
  pub visible : (path : List (List ℕ)) (e : Entry HeldFile) → IsTrue (is_in hierarchies path) → lookup view path ≡ Some e
      → IsVisible (reverse images ++ base ∷ []) path e
  pub whole : (path : List (List ℕ)) (e : Entry HeldFile) → IsTrue (is_in hierarchies path)
      → IsVisible (reverse images ++ base ∷ []) path e → lookup view path ≡ Some e

-- the view of the images of some items
pub record HasViewOf (hierarchies : List (List ℕ)) (base : Entries HeldFile) (items : List SurveyItem)
    (view : Entries HeldFile) : Type 0 where
  pub images : List (Entries HeldFile)
  pub are_images : AreImagesOf base items images
  pub is_view : IsView hierarchies base images view

-- a view that has too many entries
abbrev pub HasTooManyEntries : List (List ℕ) → Entries HeldFile → List SurveyItem → Type 0
HasTooManyEntries hierarchies base items = (view : Entries HeldFile) × HasViewOf hierarchies base items view × (most_entries < length view)

-- the view and what lies under it, or that the view has too many entries
abbrev pub GivesView : List (List ℕ) → Entries HeldFile → List SurveyItem → Result (Entries HeldFile × Entries HeldFile) ViewErr → Type 0
GivesView hierarchies base items (Ok trees) = HasViewOf hierarchies base items trees.0 × (trees.1 ≡ inside hierarchies base)
GivesView hierarchies base items (Err errors.OutOfMemory) = Unit {0}
GivesView hierarchies base items (Err (errors.Limit which)) = (which ≡ limits.Entries) × HasTooManyEntries hierarchies base items
GivesView hierarchies base items (Err e) = ⊥

-- both trees, which are within the limits of a host; or the first limit that they pass
abbrev pub FitsWithin : Entries HeldFile → Entries HeldFile → Result (Entries HeldFile × Entries HeldFile) ViewErr → Type 0
FitsWithin root lower (Ok trees) =
    (trees.0 ≡ root) × (trees.1 ≡ lower) × (length root + length lower ≤ most_entries) × (all_bytes root + all_bytes lower ≤ most_bytes)
FitsWithin root lower (Err (errors.Limit which)) = PassLimit which root lower
FitsWithin root lower (Err e) = ⊥

-- there is an image at least, and the trees of the merged host pass a limit
pub record TreesPass (host : Host) (class : Extension) (base : Entries HeldFile) (items : List SurveyItem) (which : Which) : Type 0 where
  pub non_empty : 0 < length items
  pub images : List (Entries HeldFile)
  pub are_images : AreImagesOf base items images
  pub root : Entries HeldFile
  pub lower : Entries HeldFile
  pub trees : AreViewTrees host class base images root lower
  pub passes : PassLimit which root lower

-- the trees of the merged host, which are within the limits of a host
pub record AreTrees (host : Host) (class : Extension) (base : Entries HeldFile) (items : List SurveyItem)
    (root lower : Entries HeldFile) : Type 0 where
  pub images : List (Entries HeldFile)
  pub are_images : AreImagesOf base items images
  pub trees : AreViewTrees host class base images root lower
  pub entries : length root + length lower ≤ most_entries
  pub bytes : all_bytes root + all_bytes lower ≤ most_bytes

-- the trees of the merged host, or, where there is an image at least, the limit that they pass
abbrev pub GivesTrees : Host → Extension → Entries HeldFile → List SurveyItem
    → Result (Entries HeldFile × Entries HeldFile) ViewErr → Type 0
GivesTrees host class base items (Ok trees) = AreTrees host class base items trees.0 trees.1
GivesTrees host class base items (Err errors.OutOfMemory) = Unit {0}
GivesTrees host class base items (Err (errors.Limit which)) = 0 < length items → TreesPass host class base items which
GivesTrees host class base items (Err e) = ⊥

-- the merged host
abbrev pub GivesHost : Host → Extension → Entries HeldFile → List SurveyItem → Result Host ViewErr → Type 0
GivesHost host class base items (Ok next) = HasView host class base items next
GivesHost host class base items (Err errors.OutOfMemory) = Unit {0}
GivesHost host class base items (Err (errors.Limit which)) = TreesPass host class base items which
GivesHost host class base items (Err e) = ⊥

-- its plan, or that of the unmerged host where nothing is chosen
abbrev pub GivesPlan : Host → Extension → Entries HeldFile → List SurveyItem → Result (Option Plan) ViewErr → Type 0
GivesPlan host class base items (Ok plan) = PlansView host class base items plan
GivesPlan host class base items (Err errors.OutOfMemory) = Unit {0}
GivesPlan host class base items (Err (errors.Limit which)) = TreesPass host class base items which
GivesPlan host class base items (Err e) = ⊥

-- the plan and the names
abbrev pub MergesAs : Host → Extension → Entries HeldFile → List SurveyItem → Result Merge ViewErr → Type 0
MergesAs host class base items (Ok merge) = (merge.names ≡ names_of items) × PlansView host class base items merge.plan
MergesAs host class base items (Err errors.OutOfMemory) = Unit {0}
MergesAs host class base items (Err (errors.Limit which)) = TreesPass host class base items which
MergesAs host class base items (Err e) = ⊥
