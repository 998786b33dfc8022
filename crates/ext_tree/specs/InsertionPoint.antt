-- The insertion point of a key: how many entries stand before it, up to the first that does not. In entries whose keys
-- rise, an entry with this key stands there, or would.
use Rattle.std.specs.Prelude.{ℕ, suc, Bool, if◌then◌else◌, List, [], ◌∷◌}
use Rattle.std.specs.Ordering.{is_gt}
use Rattle.std.specs.declared.cmp.Ordering.{Ordering}

module _ {K X : Type 0} (R : K → K → Ordering) where
  -- the key stands past the entry
  abbrev pub is_past : K → K × X → Bool
  is_past k e = is_gt (R k e.0)

  -- how many entries of a list in order come before the key
  abbrev pub insertion_point : K → List (K × X) → ℕ
  insertion_point k [] = 0
  insertion_point k (e ∷ es) = if is_past k e then suc (insertion_point k es) else 0
