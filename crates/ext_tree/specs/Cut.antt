-- A tree without a path and all that is below it, or without many.
use Rattle.std.specs.Prelude.{◌≡◌, ℕ, not, List, None, if◌then◌else◌}
use Rattle.std.specs.FinMap.Entries.{where_key}
use Rattle.ext_text.specs.Path.{path_cmp, is_prefix}
use Rattle.ext_text.specs.SortedPaths.{covers}
use Rattle.ext_tree.specs.Tree.{Entries, lookup}

-- a tree without a path and what is below it
abbrev pub cut : {C : Type 0} → List (List ℕ) → Entries C → Entries C
cut p es = where_key path_cmp (λ q. not (is_prefix p q)) es

-- path by path: nothing stands at and below the path, and all else is as before
abbrev pub IsCut : {C : Type 0} → Entries C → List (List ℕ) → Entries C → Type 0
IsCut es p new = (q : List (List ℕ)) → lookup new q ≡ (if is_prefix p q then None else lookup es q)

-- the same of many paths at once
abbrev pub cut_all : {C : Type 0} → List (List (List ℕ)) → Entries C → Entries C
cut_all ps es = where_key path_cmp (λ q. not (covers ps q)) es

-- path by path: nothing stands at and below one of the paths, and all else is as before
abbrev pub IsCutAll : {C : Type 0} → Entries C → List (List (List ℕ)) → Entries C → Type 0
IsCutAll es ps new = (q : List (List ℕ)) → lookup new q ≡ (if covers ps q then None else lookup es q)
