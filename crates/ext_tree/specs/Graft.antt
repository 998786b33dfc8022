-- A part hung into a tree: what stood at and below the path goes, missing parents and the path itself become directories of
-- mode 755, which is this project's own choice, and the part's entries stand below it. At the root the tree becomes the part.
use Rattle.std.specs.Prelude.{◌≡◌, ℕ, ◌<◌, ◌≤◌, Bool, false, not, ◌&&◌, List, [], ◌∷◌, ◌++◌, drop, length, if◌then◌else◌, Option, Some, None, is_some, Result, Ok, Err, IsTrue}
use Rattle.std.specs.Ordering.{eq_by_cmp}
use Rattle.ext_text.specs.Path.{IsPath, path_cmp, is_proper_prefix}
use Rattle.ext_tree.specs.Tree.{Entries, IsTree, lookup, is_directory, most_entries}
use Rattle.ext_tree.specs.Refusals.{is_root}
use Rattle.ext_attributes.specs.Attributes.{of_mode}
use Rattle.ext_tree.specs.declared.entry.Entry.{Entry}
use Rattle.ext_tree.specs.declared.entry.Entry.TheVariants.{Dir}
use Rattle.ext_tree.specs.declared.tree.TreeErr.{TreeErr}
use Rattle.ext_tree.specs.declared.tree.TreeErr.TheVariants.{OutOfMemory, Exists, NotDirectory, Limit, Path}

-- a made directory, whose mode is octal 755
abbrev pub made : {C : Type 0} → Entry C
made = Dir (of_mode 493)

-- what stands there, or else a made directory
abbrev pub or_made : {C : Type 0} → Option (Entry C) → Option (Entry C)
or_made None = Some made
or_made (Some e) = Some e

-- path by path: what stands at q once the part u is hung into the tree at p
abbrev pub grafted : {C : Type 0} → Entries C → List (List ℕ) → Entries C → List (List ℕ) → Option (Entry C)
grafted es [] u q = lookup u q
grafted es (n ∷ p) u q =
    if is_proper_prefix (n ∷ p) q then lookup u (drop (length (n ∷ p)) q)
    else if eq_by_cmp path_cmp q (n ∷ p) then Some made
    else if is_proper_prefix q (n ∷ p) && not (is_root q) then or_made (lookup es q)
    else lookup es q

-- the tree that has that at every path
pub record IsGraft {C : Type 0} (es : Entries C) (p : List (List ℕ)) (u new : Entries C) : Type 0 where
  pub tree : IsTree new
  pub each : (q : List (List ℕ)) → lookup new q ≡ grafted es p u q

-- an entry that is no directory stands there
abbrev pub is_non_directory_at : {C : Type 0} → Option (Entry C) → Bool
is_non_directory_at None = false
is_non_directory_at (Some e) = not (is_directory e)

-- an entry that is no directory stands at a proper prefix
abbrev pub IsBlocked : {C : Type 0} → Entries C → List (List ℕ) → Type 0
IsBlocked es p = (q : List (List ℕ)) × IsTrue (is_proper_prefix q p) × IsTrue (is_non_directory_at (lookup es q))

-- none does
abbrev pub IsOpen : {C : Type 0} → Entries C → List (List ℕ) → Type 0
IsOpen es p = (q : List (List ℕ)) → IsTrue (is_proper_prefix q p) → is_non_directory_at (lookup es q) ≡ false

-- the path of some entry of the part grows past its limits
abbrev pub IsTooLong : {C : Type 0} → List (List ℕ) → Entries C → Type 0
IsTooLong p u = (q : List (List ℕ)) × IsTrue (is_some (lookup u q)) × ¬ IsPath (p ++ q)

-- none does
abbrev pub Fits : {C : Type 0} → List (List ℕ) → Entries C → Type 0
Fits p u = (q : List (List ℕ)) → IsTrue (is_some (lookup u q)) → IsPath (p ++ q)

-- what a graft answers: the first of its refusals, or that there is none
abbrev pub AnswersGraft : {T C : Type 0} → Entries C → List (List ℕ) → Entries C → Result T TreeErr → Type 0
AnswersGraft {C = C} es p u (Ok done) = IsOpen es p × Fits p u × ((new : Entries C) × IsGraft es p u new × (length new ≤ most_entries))
AnswersGraft es p u (Err OutOfMemory) = Unit {0}
AnswersGraft es p u (Err Exists) = ⊥
AnswersGraft es p u (Err NotDirectory) = IsBlocked es p
AnswersGraft es p u (Err Path) = IsOpen es p × IsTooLong p u
AnswersGraft {C = C} es p u (Err Limit) = IsOpen es p × Fits p u × ((new : Entries C) × IsGraft es p u new × (most_entries < length new))
