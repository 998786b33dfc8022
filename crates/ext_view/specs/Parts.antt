-- What images have at the hierarchies of their class: the layers of a view.
use Rattle.std.specs.Prelude.{◌≡◌, ℕ, List, ◌∷◌, ◌++◌, reverse, Contains, IsTrue}
use Rattle.std.specs.BTreeSet.{BTreeSet, contains}
use Rattle.ext_text.specs.Path.{path_cmp}
use Rattle.ext_tree.specs.Part.{part}
use Rattle.ext_tree.specs.Tree.{Entries}
use Rattle.ext_layer.specs.Joining.{SayTheSame}
use Rattle.ext_walk.specs.Walk.{Ends}
use Rattle.ext_host.specs.Held.{HeldFile}
use Rattle.ext_view.specs.Inside.{inside}
use Rattle.ext_view.specs.Matched.{AreMatched}
use Rattle.ext_view.specs.declared.surveyed.SurveyItem.{SurveyItem}

-- the place leads somewhere
abbrev pub Leads : Entries HeldFile → List (List ℕ) → Type 0
Leads base place = (end : List (List ℕ)) × Ends base place end

-- the place of each item does
abbrev pub LeadsItem : Entries HeldFile → SurveyItem → Type 0
LeadsItem base item = Leads base item.place

-- the directories to which the places of some items lead, in their order
abbrev pub AreEndsOf : Entries HeldFile → List SurveyItem → List (List (List ℕ)) → Type 0
AreEndsOf base items ends = AreMatched (λ item end. Ends base item.place end) items ends

-- what the image below the path has at the hierarchies
abbrev pub part_below : Entries HeldFile → List (List ℕ) → List (List ℕ) → Entries HeldFile
part_below base hierarchies image = inside hierarchies (part image base)

-- what the image at the place has at the hierarchies
abbrev pub IsPartAt : Entries HeldFile → List (List ℕ) → List (List ℕ) → Entries HeldFile → Type 0
IsPartAt base hierarchies place layer = (end : List (List ℕ)) × Ends base place end × (layer ≡ part_below base hierarchies end)

-- what the images of some items have there, in their order
abbrev pub ArePartsOf : Entries HeldFile → List (List ℕ) → List SurveyItem → List (Entries HeldFile) → Type 0
ArePartsOf base hierarchies items layers = AreMatched (λ item layer. IsPartAt base hierarchies item.place layer) items layers

-- layers that say what those say, the last one on top
abbrev pub AreLayersOf : Entries HeldFile → List (List ℕ) → List SurveyItem → List (Entries HeldFile) → Type 0
AreLayersOf base hierarchies items layers =
    (parts : List (Entries HeldFile)) × ArePartsOf base hierarchies items parts × SayTheSame layers (reverse parts)

-- what each image of a set has at the hierarchies is among the layers
abbrev pub AreAdded : Entries HeldFile → List (List ℕ) → BTreeSet (List (List ℕ)) → List (Entries HeldFile) → Type 0
AreAdded base hierarchies images layers =
    (image : List (List ℕ)) → IsTrue (contains path_cmp images image) → Contains layers (part_below base hierarchies image)

-- over any others, layers say what older ones with another image under them say
abbrev pub SaysToo : Entries HeldFile → List (List ℕ) → List (List ℕ) → List (Entries HeldFile) → List (Entries HeldFile) → Type 0
SaysToo base hierarchies image old new =
    (lowers : List (Entries HeldFile)) → SayTheSame (new ++ lowers) (old ++ part_below base hierarchies image ∷ lowers)
