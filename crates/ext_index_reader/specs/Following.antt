-- What may follow in the lists of an index: the last item decides.
use Rattle.std.specs.Prelude.{ℕ, ◌-◌, Bool, true, not, ◌&&◌, List, length, Option, Some, None, slice_get}
use Rattle.std.specs.Ordering.{is_lt}
use Rattle.std.specs.declared.cmp.Ordering.{Ordering}
use Rattle.ext_text.specs.Path.{is_prefix, path_cmp}

-- the last item
abbrev pub last_of : {X : Type 0} → List X → Option X
last_of xs = slice_get xs (length xs - 1)

-- the key comes after the item, if there is one
abbrev pub follows_last : {X K : Type 0} → (K → K → Ordering) → (X → K) → Option X → K → Bool
follows_last R key None k = true
follows_last R key (Some x) k = is_lt (R (key x) k)

-- the key comes after that of the last item
abbrev pub may_follow : {X K : Type 0} → (K → K → Ordering) → (X → K) → List X → K → Bool
may_follow R key xs k = follows_last R key (last_of xs) k

-- and, of paths, the last one is not a prefix of it. Between a path and what lies below it all paths begin with the path, so
-- no path of a list in path order is then a prefix of another.
abbrev pub comes_apart : {X : Type 0} → (X → List (List ℕ)) → Option X → List (List ℕ) → Bool
comes_apart path None p = true
comes_apart path (Some x) p = is_lt (path_cmp (path x) p) && not (is_prefix (path x) p)

-- the path comes after those of the items, and is not related to the last
abbrev pub may_follow_apart : {X : Type 0} → (X → List (List ℕ)) → List X → List (List ℕ) → Bool
may_follow_apart path xs p = comes_apart path (last_of xs) p
