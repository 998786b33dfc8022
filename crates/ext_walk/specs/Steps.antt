-- How the code walks: what one name does, and what leads to the next link. The walk stands in an image, the part of a tree
-- below a directory; where it stands is known by its names in the whole tree.
use Rattle.std.specs.Prelude.{◌≡◌, ℕ, List, [], ◌∷◌, ◌++◌, Option, Some, None}
use Rattle.ext_tree.specs.declared.entry.Entry.{Entry}
use Rattle.ext_tree.specs.declared.entry.Entry.TheVariants.{Dir, Opaque, File, Link, Hide}
use Rattle.ext_tree.specs.Part.{part}
use Rattle.ext_tree.specs.Tree.{Entries}
use Rattle.ext_walk.specs.Walk.{Walk, walk, EndsFrom, follow, step}
use Rattle.ext_walk.specs.declared.walking.Turn.{Turn}
use Rattle.ext_walk.specs.declared.walking.Turn.TheVariants.{Moved, Met, Barred}
use Rattle.ext_walk.specs.declared.walking.Stop.{Stop}
use Rattle.ext_walk.specs.declared.walking.Stop.TheVariants.{Done, Into, Nowhere}

-- both walks have the same ends
pub record Same {C : Type 0} (es : Entries C) (w v : Walk) : Type 0 where
  pub there : (end : List (List ℕ)) → EndsFrom es w end → EndsFrom es v end
  pub back : (end : List (List ℕ)) → EndsFrom es v end → EndsFrom es w end

-- the walk has the ends of what follows, and none where nothing does
abbrev pub SameThen : {C : Type 0} → Entries C → Walk → Option Walk → Type 0
SameThen es w None = (end : List (List ℕ)) → ¬ EndsFrom es w end
SameThen es w (Some v) = Same es w v

-- what one name does at a place of the image
abbrev pub Turns : {C : Type 0} → Entries C → List (List ℕ) → List (List ℕ) → List ℕ → Turn → Type 0
Turns es image at name (Moved new) = (next : List (List ℕ)) × (new ≡ image ++ next) × ((left : List (List ℕ)) (links : ℕ) → step (part image es) (walk at (name ∷ left) links) ≡ Some (walk next left links))
Turns es image at name (Met target) = (left : List (List ℕ)) (links : ℕ) → step (part image es) (walk at (name ∷ left) links) ≡ follow target.now at left links
Turns es image at name Barred = (left : List (List ℕ)) (links : ℕ) → step (part image es) (walk at (name ∷ left) links) ≡ None

-- where the walk stops: at its end, before a link, or where no step leads on
abbrev pub Stops : {C : Type 0} → Entries C → List (List ℕ) → List (List ℕ) → List (List ℕ) → List (List ℕ) → Stop → Type 0
Stops es image at left rest (Done new) = (next : List (List ℕ)) × (new ≡ image ++ next) × ((links : ℕ) → Same (part image es) (walk at left links) (walk next [] links))
Stops es image at left rest (Into new target) = (next : List (List ℕ)) × (new ≡ image ++ next) × ((links : ℕ) → SameThen (part image es) (walk at left links) (follow target.now next rest links))
Stops es image at left rest Nowhere = (links : ℕ) (end : List (List ℕ)) → ¬ EndsFrom (part image es) (walk at left links) end

-- what an entry does at a name
abbrev pub TurnsTo : {C : Type 0} → List (List ℕ) → Entry C → Turn → Type 0
TurnsTo path (Dir attributes) (Moved new) = new ≡ path
TurnsTo path (Dir attributes) (Met target) = ⊥
TurnsTo path (Dir attributes) Barred = ⊥
TurnsTo path (Opaque attributes) (Moved new) = new ≡ path
TurnsTo path (Opaque attributes) (Met target) = ⊥
TurnsTo path (Opaque attributes) Barred = ⊥
TurnsTo path (File attributes content) (Moved new) = new ≡ path
TurnsTo path (File attributes content) (Met target) = ⊥
TurnsTo path (File attributes content) Barred = ⊥
TurnsTo path (Link owner text) (Moved new) = ⊥
TurnsTo path (Link owner text) (Met target) = target.now ≡ text
TurnsTo path (Link owner text) Barred = ⊥
TurnsTo path Hide (Moved new) = ⊥
TurnsTo path Hide (Met target) = ⊥
TurnsTo path Hide Barred = Unit {0}
