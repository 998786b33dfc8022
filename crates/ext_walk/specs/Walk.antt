-- Walks through a tree along names, as path_resolution(7) has it: links are followed in every name, and `..` at the root
-- stays there. That empty names and `.` are dropped also after a file, and that at most 40 links are followed, is this
-- project's own choice.
use Rattle.std.specs.Prelude.{◌≡◌, ℕ, zero, suc, ◌+◌, nat_le, ◌==◌, Bool, true, false, List, [], ◌∷◌, ◌++◌, if◌then◌else◌, Option, Some, None, IsTrue}
use Rattle.std.specs.Option.{option_and_then}
use Rattle.std.specs.List.{slice_split}
use Rattle.ext_text.specs.Path.{parent}
use Rattle.ext_tree.specs.declared.entry.Entry.{Entry}
use Rattle.ext_tree.specs.declared.entry.Entry.TheVariants.{Dir, Opaque, File, Link, Hide}
use Rattle.ext_tree.specs.Part.{part}
use Rattle.ext_tree.specs.Tree.{Entries, IsTree, lookup, is_directory_or_root}

-- where a walk stands, the names that are left, and how many links it has followed
pub data Walk : Type 0 where
  walk : List (List ℕ) → List (List ℕ) → ℕ → Walk

-- the most links of a walk
abbrev pub most_links : ℕ
most_links = 40

-- an empty name or `.`
abbrev pub is_idle : List ℕ → Bool
is_idle [] = true
is_idle (b ∷ []) = b == 46
is_idle (b ∷ c ∷ bs) = false

-- `..`
abbrev pub is_up : List ℕ → Bool
is_up [] = false
is_up (b ∷ []) = false
is_up (b ∷ c ∷ []) = if b == 46 then c == 46 else false
is_up (b ∷ c ∷ d ∷ bs) = false

-- a text that begins with a slash
abbrev pub is_absolute : List ℕ → Bool
is_absolute [] = false
is_absolute (b ∷ bs) = b == 47

-- the parts of a text between its slashes, which need be no names
abbrev pub parts : List ℕ → List (List ℕ)
parts text = slice_split (λ b. b == 47) text

-- a link puts the parts of its target before the names that are left; from an absolute one the walk goes on at the root
abbrev pub follow : List ℕ → List (List ℕ) → List (List ℕ) → ℕ → Option Walk
follow target at left links =
    if nat_le most_links links then None
    else Some (walk (if is_absolute target then [] else at) (parts target ++ left) (links + 1))

-- what a name does, by what stands there: at a directory or a file the walk moves there, and past a whiteout nothing leads
abbrev pub enter : {C : Type 0} → Option (Entry C) → List (List ℕ) → List ℕ → List (List ℕ) → ℕ → Option Walk
enter None at name left links = None
enter (Some (Dir attributes)) at name left links = Some (walk (at ++ name ∷ []) left links)
enter (Some (Opaque attributes)) at name left links = Some (walk (at ++ name ∷ []) left links)
enter (Some (File attributes content)) at name left links = Some (walk (at ++ name ∷ []) left links)
enter (Some (Link owner target)) at name left links = follow target at left links
enter (Some Hide) at name left links = None

-- one step, where there is one: `..` and a name need a directory or the root
abbrev pub step : {C : Type 0} → Entries C → Walk → Option Walk
step es (walk at [] links) = None
step es (walk at (name ∷ left) links) =
    if is_idle name then Some (walk at left links)
    else if is_up name then (if is_directory_or_root es at then Some (walk (parent at) left links) else None)
    else if is_directory_or_root es at then enter (lookup es (at ++ name ∷ [])) at name left links
    else None

-- so many steps of a walk; none where one of them leads nowhere
abbrev pub steps : {C : Type 0} → Entries C → ℕ → Walk → Option Walk
steps es zero w = Some w
steps es (suc count) w = option_and_then (steps es count) (step es w)

-- some number of steps ends there, with no name left
abbrev pub EndsFrom : {C : Type 0} → Entries C → Walk → List (List ℕ) → Type 0
EndsFrom es w end = (count : ℕ) × (links : ℕ) × (steps es count w ≡ Some (walk end [] links))

-- the walk from the root along the names ends there
abbrev pub Ends : {C : Type 0} → Entries C → List (List ℕ) → List (List ℕ) → Type 0
Ends es names end = EndsFrom es (walk [] names 0) end

-- the end of the walk along the names, or that it has none
abbrev pub Resolves : {C : Type 0} → Entries C → List (List ℕ) → Option (List (List ℕ)) → Type 0
Resolves es names None = (end : List (List ℕ)) → ¬ Ends es names end
Resolves es names (Some end) = Ends es names end

-- the end of the walk inside an image, the part below a directory of the tree, as the names that it has in the tree
abbrev pub ResolvesIn : {C : Type 0} → Entries C → List (List ℕ) → List (List ℕ) → Option (List (List ℕ)) → Type 0
ResolvesIn es image names None = (end : List (List ℕ)) → ¬ Ends (part image es) names end
ResolvesIn es image names (Some at) = (end : List (List ℕ)) × (at ≡ image ++ end) × Ends (part image es) names end

-- a directory or a file stands there: no link and no whiteout
abbrev pub is_standing : {C : Type 0} → Option (Entry C) → Bool
is_standing None = false
is_standing (Some (Dir attributes)) = true
is_standing (Some (Opaque attributes)) = true
is_standing (Some (File attributes content)) = true
is_standing (Some (Link owner target)) = false
is_standing (Some Hide) = false

-- the root, or the path of a directory or a file
abbrev pub is_end : {C : Type 0} → Entries C → List (List ℕ) → Bool
is_end es [] = true
is_end es (n ∷ path) = is_standing (lookup es (n ∷ path))

-- every walk ends at the root, or at an entry that is no link and no whiteout
abbrev pub EndsAtNoLink : Type 0 → Type 0
EndsAtNoLink C = (es : Entries C) (names end : List (List ℕ)) → IsTree es → Ends es names end → IsTrue (is_end es end)

-- a walk has one end
abbrev pub OneEnd : Type 0 → Type 0
OneEnd C = (es : Entries C) (names a b : List (List ℕ)) → Ends es names a → Ends es names b → a ≡ b
