-- Which items of an update are in the way of others, or of what stands in the tree: this project's own. Two paths are related
-- where they are equal or one lies below the other.
use Rattle.std.specs.Prelude.{◌≢◌, ℕ, ◌<◌, ◌++◌, Bool, true, false, not, IsTrue, List, Option, Some, None, is_some}
use Rattle.std.specs.List.{count_by}
use Rattle.std.specs.declared.cmp.Ordering.TheVariants.{Less}
use Rattle.ext_text.specs.Path.{are_related, path_cmp}
use Rattle.ext_text.specs.SortedPaths.{is_among, meets}
use Rattle.ext_tree.specs.Tree.{Entries, lookup}
use Rattle.ext_tree.specs.declared.entry.Entry.{Entry}
use Rattle.ext_tree.specs.declared.entry.Entry.TheVariants.{Dir, Opaque, File, Link, Hide}
use Rattle.ext_updated.specs.Items.{written}
use Rattle.ext_updated.specs.declared.items.Items.{Items}

-- a symbolic link
abbrev pub is_link : {C : Type 0} → Entry C → Bool
is_link (Dir attributes) = false
is_link (Opaque attributes) = false
is_link (File attributes content) = false
is_link (Link owner target) = true
is_link Hide = false

-- something other than a link stands there
abbrev pub is_non_link_at : {C : Type 0} → Option (Entry C) → Bool
is_non_link_at None = false
is_non_link_at (Some e) = not (is_link e)

-- the path is one of the paths, and another one of them, by its place in the list, is related to it: more than one of them
-- is, since the path itself is
pub record MeetsAnother (paths : List (List (List ℕ))) (p : List (List ℕ)) : Type 0 where
  pub among : IsTrue (is_among paths p)
  pub another : 1 < count_by (are_related p) paths

-- the path of an item is in the way
pub data IsInTheWay {C : Type 0} (root : Entries C) (items : Items) (p : List (List ℕ)) : Type 0 where
  -- of another one that is written, and two may have one path
  meets_another : MeetsAnother (written items) p → IsInTheWay root items p
  -- it is written, and related to one that goes or stays
  written_meets : IsTrue (is_among (written items) p) → IsTrue (meets (items.removed ++ items.staying) p) → IsInTheWay root items p
  -- it goes, and is related to one that is written or stays
  removed_meets : IsTrue (is_among items.removed p) → IsTrue (meets (written items ++ items.staying) p) → IsInTheWay root items p
  -- it is a resource, and something stands there
  resource_over : IsTrue (is_among items.resources p) → IsTrue (is_some (lookup root p)) → IsInTheWay root items p
  -- it is a link, and something other than a link stands there
  link_over : IsTrue (is_among items.links p) → IsTrue (is_non_link_at (lookup root p)) → IsInTheWay root items p

-- the least path that is in the way
pub record IsClash {C : Type 0} (root : Entries C) (items : Items) (p : List (List ℕ)) : Type 0 where
  pub stands : IsInTheWay root items p
  pub least : (q : List (List ℕ)) → IsInTheWay root items q → path_cmp q p ≢ Less

-- none is in the way
abbrev pub NoClash : {C : Type 0} → Entries C → Items → Type 0
NoClash root items = (p : List (List ℕ)) → ¬ IsInTheWay root items p

-- the least path that is in the way, or none where there is none
abbrev pub AnswersClash : {C : Type 0} → Entries C → Items → Option (List (List ℕ)) → Type 0
AnswersClash root items None = NoClash root items
AnswersClash root items (Some p) = IsClash root items p
