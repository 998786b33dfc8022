-- Entries at and below some hierarchies in the place of those that a tree has there.
use Rattle.std.specs.Prelude.{ℕ, List}
use Rattle.ext_tree.specs.Joining.{put_all}
use Rattle.ext_tree.specs.Tree.{Entries}
use Rattle.ext_view.specs.Inside.{outside}

-- what some entries have elsewhere, with others, which are at and below the names, in the place of what they have there
abbrev pub replaced : {C : Type 0} → List (List ℕ) → Entries C → Entries C → Entries C
replaced names es new = put_all (outside names es) new
