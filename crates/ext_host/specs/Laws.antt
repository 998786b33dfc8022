-- The laws of hosts.
use Rattle.std.specs.Prelude.{◌≡◌, ℕ, ◌++◌, ◌⊎◌, List, [], ◌∷◌, Some, Contains}
use Rattle.std.specs.List.{AllByRecursion}
use Rattle.ext_tree.specs.Cut.{IsCut}
use Rattle.ext_tree.specs.Graft.{IsGraft, made}
use Rattle.ext_tree.specs.Part.{IsPart}
use Rattle.ext_tree.specs.Tree.{Entries, lookup}
use Rattle.ext_tree.specs.declared.entry.Entry.{Entry}
use Rattle.ext_host.specs.Drawn.{AreDrawnFrom, IsDrawnFrom}
use Rattle.ext_host.specs.Held.{HeldFile}
use Rattle.ext_host.specs.Host.{IsBase}
use Rattle.ext_host.specs.Touch.{untouched, untouched_all}
use Rattle.ext_host.specs.declared.manifest.Manifest.{Manifest}
use Rattle.ext_host.specs.Valid.{IsValidHost}
use Rattle.ext_host.specs.declared.host.Host.{Host}

-- a host is drawn from itself
abbrev pub DrawnFromItself : Type 0
DrawnFromItself = (host : Host) → IsDrawnFrom host host

-- and from what a host is drawn from that it is drawn from
abbrev pub DrawnThrough : Type 0
DrawnThrough = (a b c : Host) → IsDrawnFrom a b → IsDrawnFrom b c → IsDrawnFrom a c

-- trees that are drawn from others are drawn from all that those are drawn from
abbrev pub TreesDrawnThrough : Type 0
TreesDrawnThrough = (a b c : List (Entries HeldFile)) → AreDrawnFrom a b → AreDrawnFrom b c → AreDrawnFrom a c

-- trees are drawn from others where each of them is
abbrev pub DrawnOneByOne : Type 0
DrawnOneByOne = (old new : List (Entries HeldFile)) → AllByRecursion (λ es. AreDrawnFrom old (es ∷ [])) new → AreDrawnFrom old new

-- trees of a host are drawn from it
abbrev pub TreesAreDrawn : Type 0
TreesAreDrawn = (old new : List (Entries HeldFile)) → AllByRecursion (Contains old) new → AreDrawnFrom old new

-- each entry of the base is one that is seen or lies under the view, at the same path
abbrev pub EntriesOfBase : Type 0
EntriesOfBase = (host : Host) (es : Entries HeldFile) (path : List (List ℕ)) (e : Entry HeldFile) → IsBase host es → lookup es path ≡ Some e → (lookup host.root path ≡ Some e) ⊎ (lookup host.lower path ≡ Some e)

-- each entry of a part is one of the tree, at the path below the part's
abbrev pub EntriesOfPart : Type 0 → Type 0
EntriesOfPart C = (es part : Entries C) (at path : List (List ℕ)) (e : Entry C) → IsPart es at part → lookup part path ≡ Some e → lookup es (at ++ path) ≡ Some e

-- each entry of a tree without a path is one of the tree, at the same path
abbrev pub EntriesOfCut : Type 0 → Type 0
EntriesOfCut C = (es rest : Entries C) (at path : List (List ℕ)) (e : Entry C) → IsCut es at rest → lookup rest path ≡ Some e → lookup es path ≡ Some e

-- each entry of a tree into which a part is hung is one of the tree, at the same path, or one of the part, at the path below
-- the one at which it is hung, or a directory that was made
abbrev pub EntriesOfGraft : Type 0 → Type 0
EntriesOfGraft C = (es part new : Entries C) (at path : List (List ℕ)) (e : Entry C) → IsGraft es at part new → lookup new path ≡ Some e → (lookup es path ≡ Some e) ⊎ (((rest : List (List ℕ)) × (path ≡ at ++ rest) × (lookup part rest ≡ Some e)) ⊎ (e ≡ made))

-- so what they give is drawn from what they were given
abbrev pub BaseIsDrawn : Type 0
BaseIsDrawn = (host : Host) (es : Entries HeldFile) → IsBase host es → AreDrawnFrom (host.root ∷ host.lower ∷ []) (es ∷ [])

-- a part of a tree is drawn from it
abbrev pub PartIsDrawn : Type 0
PartIsDrawn = (es part : Entries HeldFile) (at : List (List ℕ)) → IsPart es at part → AreDrawnFrom (es ∷ []) (part ∷ [])

-- a tree without a part is drawn from it
abbrev pub CutIsDrawn : Type 0
CutIsDrawn = (es rest : Entries HeldFile) (at : List (List ℕ)) → IsCut es at rest → AreDrawnFrom (es ∷ []) (rest ∷ [])

-- a tree with a part grafted is drawn from both
abbrev pub GraftIsDrawn : Type 0
GraftIsDrawn = (es part new : Entries HeldFile) (at : List (List ℕ)) → IsGraft es at part new → AreDrawnFrom (es ∷ part ∷ []) (new ∷ [])

-- a valid host stays valid where a path is touched
abbrev pub TouchedIsValid : Type 0
TouchedIsValid = (host : Host) (path : List (List ℕ)) → IsValidHost host → IsValidHost (record host { kept = untouched path host.kept })

-- and where many are
abbrev pub TouchedAllIsValid : Type 0
TouchedAllIsValid = (host : Host) (paths : List (List (List ℕ))) → IsValidHost host → IsValidHost (record host { kept = untouched_all paths host.kept })

-- touching many paths leaves what touching one after the other does
abbrev pub TouchedOneByOne : Type 0
TouchedOneByOne = (path : List (List ℕ)) (paths : List (List (List ℕ))) (manifests : List Manifest) → untouched_all (path ∷ paths) manifests ≡ untouched path (untouched_all paths manifests)
