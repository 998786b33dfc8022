-- The view of a class, after systemd-sysext(8): what the chosen images show over the base at and below the hierarchies of
-- their class. That the view is a tree which is written and kept, and not a mount, and that an image shows with all that it
-- has at a hierarchy, the directory's own attributes and marks too, is this project's own choice.
use Rattle.std.specs.Prelude.{◌≡◌, ℕ, Bool, true, false, List, [], ◌∷◌, ◌++◌, map, reverse, IsTrue, Option, Some, None}
use Rattle.std.specs.List.{filter}
use Rattle.ext_text.specs.declared.extension.Extension.{Extension}
use Rattle.ext_text.specs.declared.extension.Extension.TheVariants.{Sysext, Confext}
use Rattle.ext_tree.specs.Part.{part}
use Rattle.ext_tree.specs.Tree.{Entries, IsTree, lookup}
use Rattle.ext_tree.specs.declared.entry.Entry.{Entry}
use Rattle.ext_layer.specs.Layered.{IsVisible}
use Rattle.ext_walk.specs.Walk.{Ends}
use Rattle.ext_host.specs.Held.{HeldFile}
use Rattle.ext_host.specs.Host.{base_at, hierarchies_in, is_in, present}
use Rattle.ext_host.specs.declared.host.Host.{Host}
use Rattle.ext_match.specs.declared.verdict.Verdict.{Verdict}
use Rattle.ext_match.specs.declared.verdict.Verdict.TheVariants as verdicts
use Rattle.ext_view.specs.Hierarchies.{hierarchies_at}
use Rattle.ext_view.specs.Matched.{AreMatched}
use Rattle.ext_view.specs.declared.surveyed.SurveyItem.{SurveyItem}
use Rattle.ext_view.specs.declared.surveyed.SurveyKind.{SurveyKind}
use Rattle.ext_view.specs.declared.surveyed.SurveyKind.TheVariants.{Masked, Raw, Broken, BadRelease, Image}

-- the verdict lets an image be merged
abbrev pub is_fitting : Verdict → Bool
is_fitting verdicts.Fits = true
is_fitting verdicts.Scope = false
is_fitting verdicts.Architecture = false
is_fitting verdicts.NoId = false
is_fitting verdicts.Id = false
is_fitting verdicts.Level = false
is_fitting verdicts.Version = false

-- an image whose release file reads and that fits
abbrev pub is_fit : SurveyKind → Bool
is_fit Masked = false
is_fit Raw = false
is_fit (Broken why) = false
is_fit (BadRelease line) = false
is_fit (Image verdict) = is_fitting verdict

-- those of a survey, in its order: the smallest version first
abbrev pub chosen : List SurveyItem → List SurveyItem
chosen items = filter (λ item. is_fit item.kind) items

-- the names of items
abbrev pub names_of : List SurveyItem → List (List ℕ)
names_of items = map (λ item. item.name) items

-- the image of the item: what the base has below the directory to which the item's place leads
abbrev pub IsImageOf : Entries HeldFile → SurveyItem → Entries HeldFile → Type 0
IsImageOf base item image = (end : List (List ℕ)) × Ends base item.place end × (image ≡ part end base)

-- the images of some items, in their order
abbrev pub AreImagesOf : Entries HeldFile → List SurveyItem → List (Entries HeldFile) → Type 0
AreImagesOf base items images = AreMatched (IsImageOf base) items images

-- the host with other trees, and with these names for the class
abbrev pub with_view : Extension → Option (List (List ℕ)) → Entries HeldFile → Entries HeldFile → Host → Host
with_view Sysext names root lower host = record host { root = root; lower = lower; sysext = names }
with_view Confext names root lower host = record host { root = root; lower = lower; confext = names }

-- The unmerged host: at and below the hierarchies of the class its root is the base, and its lower tree has nothing; the class
-- has no names. All else is as it was.
pub record IsUnmerged (host : Host) (class : Extension) (next : Host) : Type 0 where
  pub root : IsTree next.root
  pub lower : IsTree next.lower
  pub base : (path : List (List ℕ)) → IsTrue (is_in (hierarchies_at class host) path)
      → lookup next.root path ≡ base_at (hierarchies_in host) (present host) path
  pub root_outside : (path : List (List ℕ)) → is_in (hierarchies_at class host) path ≡ false → lookup next.root path ≡ lookup host.root path
  pub gone : (path : List (List ℕ)) → IsTrue (is_in (hierarchies_at class host) path) → lookup next.lower path ≡ None
  pub lower_outside : (path : List (List ℕ)) → is_in (hierarchies_at class host) path ≡ false
      → lookup next.lower path ≡ lookup host.lower path
  pub same : next ≡ with_view class None next.root next.lower host

-- The trees of the merged host, for its base and the images, the lowest first: at and below the hierarchies of the class
-- what is visible of the images, the last on top, over the base, and under it the base. Elsewhere both are as they were.
pub record AreViewTrees (host : Host) (class : Extension) (base : Entries HeldFile) (images : List (Entries HeldFile))
    (root lower : Entries HeldFile) : Type 0 where
  pub root_tree : IsTree root
  pub lower_tree : IsTree lower
  pub visible : (path : List (List ℕ)) (e : Entry HeldFile) → IsTrue (is_in (hierarchies_at class host) path) → lookup root path ≡ Some e
      → IsVisible (reverse images ++ base ∷ []) path e
  pub whole : (path : List (List ℕ)) (e : Entry HeldFile) → IsTrue (is_in (hierarchies_at class host) path)
      → IsVisible (reverse images ++ base ∷ []) path e → lookup root path ≡ Some e
  pub root_outside : (path : List (List ℕ)) → is_in (hierarchies_at class host) path ≡ false → lookup root path ≡ lookup host.root path
  pub base_lower : (path : List (List ℕ)) → IsTrue (is_in (hierarchies_at class host) path) → lookup lower path ≡ lookup base path
  pub lower_outside : (path : List (List ℕ)) → is_in (hierarchies_at class host) path ≡ false → lookup lower path ≡ lookup host.lower path

-- the host with the view of some images of these names
pub record HasView (host : Host) (class : Extension) (base : Entries HeldFile) (items : List SurveyItem) (next : Host) : Type 0 where
  pub images : List (Entries HeldFile)
  pub are_images : AreImagesOf base items images
  pub trees : AreViewTrees host class base images next.root next.lower
  pub same : next ≡ with_view class (Some (names_of items)) next.root next.lower host

-- the merged host of the chosen items; where none is chosen it is the unmerged host
abbrev pub IsMergedHost : Host → Extension → Entries HeldFile → List SurveyItem → Host → Type 0
IsMergedHost host class base [] next = IsUnmerged host class next
IsMergedHost host class base (item ∷ items) next = HasView host class base (item ∷ items) next
