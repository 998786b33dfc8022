-- Which paths may not be written or cut, and the least of them: this project's own.
use Rattle.std.specs.Prelude.{◌≡◌, ℕ, ◌⊎◌, Bool, false, List, [], ◌∷◌, Contains}
use Rattle.std.specs.List.{AllByRecursion}
use Rattle.std.specs.Ordering.{is_gt}
use Rattle.std.specs.declared.cmp.Ordering.{Ordering}
use Rattle.ext_text.specs.Name.{bytes_cmp}
use Rattle.ext_host.specs.Host.{hierarchies_in, merged_hierarchies, present}
use Rattle.ext_host.specs.Locks.{locks}
use Rattle.ext_host.specs.declared.host.Host.{Host}

-- the hierarchies of the merged classes
abbrev pub merged_in : Host → List (List ℕ)
merged_in host = merged_hierarchies (hierarchies_in host) (present host)

-- the path is in, at or above one of them, so it may not be written or cut
abbrev pub is_read_only : Host → List (List ℕ) → Bool
is_read_only host path = locks (merged_in host) path

-- one of some items that comes after none of them
pub record IsLeast {X : Type 0} (R : X → X → Ordering) (items : List X) (item : X) : Type 0 where
  pub among : Contains items item
  pub least : AllByRecursion (λ other. is_gt (R item other) ≡ false) items

-- the one of two names that does not come after the other
abbrev pub IsLesser : List ℕ → List ℕ → List ℕ → Type 0
IsLesser a b name =
    ((name ≡ a) × (is_gt (bytes_cmp a b) ≡ false)) ⊎ ((name ≡ b) × (is_gt (bytes_cmp b a) ≡ false))

-- the least path that may not be written or cut, of those that a change at the path writes or cuts: the path itself, or
-- the least merged hierarchy, there or not, where it is the root
abbrev pub IsReadOnlyAt : Host → List (List ℕ) → List (List ℕ) → Type 0
IsReadOnlyAt host [] at = (name : List ℕ) × IsLeast bytes_cmp (merged_in host) name × (at ≡ name ∷ [])
IsReadOnlyAt host (first ∷ path) at = at ≡ first ∷ path
