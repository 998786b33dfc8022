-- What a tree has at and below some hierarchies, names directly below the root, and what it has elsewhere.
use Rattle.std.specs.Prelude.{ℕ, not, List, drop}
use Rattle.std.specs.FinMap.Entries.{where_key}
use Rattle.ext_text.specs.Path.{path_cmp}
use Rattle.ext_tree.specs.Tree.{Entries}
use Rattle.ext_tree.specs.declared.entry.Entry.{Entry}
use Rattle.ext_host.specs.Host.{is_in}

-- the entries at and below the names
abbrev pub inside : {C : Type 0} → List (List ℕ) → Entries C → Entries C
inside names es = where_key path_cmp (is_in names) es

-- the others
abbrev pub outside : {C : Type 0} → List (List ℕ) → Entries C → Entries C
outside names es = where_key path_cmp (λ path. not (is_in names path)) es

-- an entry without the first names of its path, so many of them
abbrev pub seen_below : {C : Type 0} → ℕ → List (List ℕ) × Entry C → List (List ℕ) × Entry C
seen_below depth e = (drop depth e.0, e.1)
