-- Entries as they are seen from below: without their first names.
use Rattle.std.specs.Prelude.{ℕ, List, drop, map}
use Rattle.std.specs.Borrow.{Bor}
use Rattle.ext_tree.specs.Tree.{Entries}
use Rattle.ext_tree.specs.declared.entry.Entry.{Entry}

-- an entry without the first names of its path, so many of them
abbrev pub seen_entry : {C : Type 0} → ℕ → List (List ℕ) × Entry C → List (List ℕ) × Entry C
seen_entry depth e = (drop depth e.0, e.1)

-- entries without the first names of their paths
abbrev pub seen : {C : Type 0} → ℕ → Entries C → Entries C
seen depth es = map (seen_entry depth) es

-- borrowed names
abbrev pub borrowed : List (Bor (List ℕ)) → List (List ℕ)
borrowed names = map (λ name. name.now) names
