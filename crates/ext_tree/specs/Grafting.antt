-- How a part is hung into a tree: the entries before the path, the made directories, the part's entries below the path, and
-- the entries after all that stood at and below the path.
use Rattle.std.specs.Prelude.{◌≡◌, ℕ, suc, zero, ◌-◌, ◌<◌, ◌≤◌, List, [], ◌∷◌, ◌++◌, length, map, take, Option, Some, None, Result, Ok, Err, IsTrue}
use Rattle.std.specs.Ordering.{is_lt}
use Rattle.std.specs.FinMap.Entries.{where_key}
use Rattle.ext_text.specs.Path.{path_cmp}
use Rattle.ext_tree.specs.Graft.{IsBlocked, made}
use Rattle.ext_tree.specs.Slices.{is_after}
use Rattle.ext_tree.specs.Tree.{Entries, is_directory_at, lookup, most_entries}
use Rattle.ext_tree.specs.declared.entry.Entry.{Entry}
use Rattle.ext_tree.specs.declared.tree.TreeErr.{TreeErr}
use Rattle.ext_tree.specs.declared.tree.TreeErr.TheVariants.{OutOfMemory, Exists, NotDirectory, Limit, Path}

-- made directories at the first names of the path: at so many names, and at one more each, so many directories
abbrev pub directories : {C : Type 0} → List (List ℕ) → ℕ → ℕ → Entries C
directories p names zero = []
directories p names (suc count) = (take names p, made) ∷ directories p (suc names) count

-- the entry below the path
abbrev pub hung : {C : Type 0} → List (List ℕ) → List (List ℕ) × Entry C → List (List ℕ) × Entry C
hung p e = (p ++ e.0, e.1)

-- what is new where so many first names of the path stand: directories at the longer ones, and the part below the path
abbrev pub added : {C : Type 0} → List (List ℕ) → ℕ → Entries C → Entries C
added p standing u = directories p (suc standing) (length p - standing) ++ map (hung p) u

-- the whole in path order
abbrev pub joined : {C : Type 0} → List (List ℕ) → Entries C → Entries C → Entries C
joined p es new = where_key path_cmp (λ q. is_lt (path_cmp q p)) es ++ (new ++ where_key path_cmp (is_after p) es)

-- at so many first names of the path there are directories, and nothing stands at the longer proper prefixes
pub record StandsBelow {C : Type 0} (es : Entries C) (p : List (List ℕ)) (standing : ℕ) : Type 0 where
  pub not_all : standing < length p
  pub there : (k : ℕ) → 0 < k → k ≤ standing → IsTrue (is_directory_at (lookup es (take k p)))
  pub absent : (k : ℕ) → standing < k → k < length p → lookup es (take k p) ≡ None

-- how many first names those are; `None` where an entry that is no directory stands at one of them
abbrev pub StandsTo : {C : Type 0} → Entries C → List (List ℕ) → Option ℕ → Type 0
StandsTo es p None = IsBlocked es p
StandsTo es p (Some standing) = StandsBelow es p standing

-- the reason is a path that grows past its limits, where that holds, or an allocation that failed
abbrev pub IsLongPath : Type 0 → TreeErr → Type 0
IsLongPath Long OutOfMemory = Unit {0}
IsLongPath Long Exists = ⊥
IsLongPath Long NotDirectory = ⊥
IsLongPath Long Path = Long
IsLongPath Long Limit = ⊥

-- the number of entries is within the limit, or past it
abbrev pub AnswersLimit : {T : Type 0} → ℕ → Result T TreeErr → Type 0
AnswersLimit count (Ok done) = count ≤ most_entries
AnswersLimit count (Err OutOfMemory) = Unit {0}
AnswersLimit count (Err Exists) = ⊥
AnswersLimit count (Err NotDirectory) = ⊥
AnswersLimit count (Err Path) = ⊥
AnswersLimit count (Err Limit) = most_entries < count
