-- Going through the names of a directory: entries below it, one name after the other.
use Rattle.std.specs.Prelude.{◌≡◌, ◌⊎◌, ℕ, ◌<◌, Bool, true, false, List, [], ◌∷◌, ◌++◌, length, IsTrue, Option, Some, None, slice_get}
use Rattle.std.specs.FinMap.{is_sorted}
use Rattle.std.specs.FinMap.Entries.{where_key}
use Rattle.std.specs.List.{AllByRecursion}
use Rattle.std.specs.Ordering.{eq_by_cmp}
use Rattle.std.specs.declared.cmp.Ordering.TheVariants.{Less}
use Rattle.ext_lines.specs.ByteOrder.{bytes_cmp}
use Rattle.ext_text.specs.Name.{IsName}
use Rattle.ext_text.specs.Path.{path_cmp, is_proper_prefix}
use Rattle.ext_tree.specs.Tree.{Entries, lookup}
use Rattle.ext_walk.specs.declared.row.Next.{Next}

-- entries below the directory, in path order; of each name all that the tree has at and below it, or nothing
pub record IsRow {C : Type 0} (es : Entries C) (directory : List (List ℕ)) (rest : Entries C) : Type 0 where
  pub sorted : IsTrue (is_sorted path_cmp rest)
  pub below : AllByRecursion (λ e. is_proper_prefix directory e.0 ≡ true) rest
  pub whole : (n : List ℕ) → ((q : List (List ℕ)) → lookup rest (directory ++ n ∷ q) ≡ lookup es (directory ++ n ∷ q)) ⊎ ((q : List (List ℕ)) → lookup rest (directory ++ n ∷ q) ≡ None)

-- past a name: none before it is left, and of the names that are left no more than it is passed
pub record Passes {C : Type 0} (directory : List (List ℕ)) (rest : Entries C) (name : List ℕ) (more : Entries C) : Type 0 where
  pub shorter : length more < length rest
  pub none_before : (n : List ℕ) → bytes_cmp n name ≡ Less → lookup rest (directory ++ n ∷ []) ≡ None
  pub passed : (n : List ℕ) → lookup more (directory ++ n ∷ []) ≡ None → (lookup rest (directory ++ n ∷ []) ≡ None) ⊎ (n ≡ name)

-- the tree has the entry, this is all that it has below it, and it stands at a name
pub record Stands {C : Type 0} (es : Entries C) (next : Next C) : Type 0 where
  pub there : lookup es next.entry.now.0 ≡ Some next.entry.now.1
  pub inside : next.inside.now ≡ where_key path_cmp (is_proper_prefix next.entry.now.0) es
  pub name : IsName next.name.now

-- the next name, what stands at it and below it, and what is left
pub record IsNext {C : Type 0} (es : Entries C) (directory : List (List ℕ)) (rest : Entries C) (next : Next C) : Type 0 where
  pub path : next.entry.now.0 ≡ directory ++ next.name.now ∷ []
  pub stands : Stands es next
  pub passes : Passes directory rest next.name.now next.more.now
  pub row : IsRow es directory next.more.now

-- the next name, or that none is left
abbrev pub NextName : {C : Type 0} → Entries C → List (List ℕ) → Entries C → Option (Next C) → Type 0
NextName es directory rest None = (n : List ℕ) → lookup rest (directory ++ n ∷ []) ≡ None
NextName es directory rest (Some next) = IsNext es directory rest next

-- there is a name, and it is this one
abbrev pub is_name : List ℕ → Option (List ℕ) → Bool
is_name name None = false
is_name name (Some own) = eq_by_cmp bytes_cmp own name

-- the path has the name at this depth
abbrev pub has_name : {C : Type 0} → ℕ → List ℕ → List (List ℕ) × C → Bool
has_name depth name e = is_name name (slice_get e.0 depth)
