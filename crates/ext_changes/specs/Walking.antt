-- One pass over two lists of entries in path order.
use Rattle.std.specs.Prelude.{◌≡◌, ◌+◌, ◌<◌, [], ◌++◌, length, IsTrue, Option, Some, None}
use Rattle.std.specs.FinMap.{is_sorted}
use Rattle.ext_text.specs.Path.{path_cmp}
use Rattle.ext_tree.specs.Tree.{Entries}
use Rattle.ext_tree.specs.declared.stamp.Stamp.{Stamp}
use Rattle.ext_changes.specs.Changes.{AreChanges, Changes}
use Rattle.ext_changes.specs.Told.{some_told}
use Rattle.ext_changes.specs.declared.walking.Step.{Step}

-- what was found and the changes of what is left are the changes of the whole; what is left is in order, and less
pub record Leads {A B : Type 0} (old_stamp : A → Stamp) (new_stamp : B → Stamp) (earlier : Entries A) (later : Entries B) (found : Changes) (earlier_left : Entries A) (later_left : Entries B) : Type 0 where
  pub whole : (more : Changes) → AreChanges old_stamp new_stamp earlier_left later_left more → AreChanges old_stamp new_stamp earlier later (found ++ more)
  pub earlier_sorted : IsTrue (is_sorted path_cmp earlier_left)
  pub later_sorted : IsTrue (is_sorted path_cmp later_left)
  pub less : length earlier_left + length later_left < length earlier + length later

-- the changes were added at the end
pub record Adds {A B : Type 0} (old_stamp : A → Stamp) (new_stamp : B → Stamp) (earlier : Entries A) (later : Entries B) (old new : Changes) : Type 0 where
  pub more : Changes
  pub changes : AreChanges old_stamp new_stamp earlier later more
  pub added : new ≡ old ++ more

-- a step leads on from two lists
abbrev pub LeadsTo : {A B : Type 0} → (A → Stamp) → (B → Stamp) → Entries A → Entries B → Step A B → Type 0
LeadsTo old_stamp new_stamp earlier later step = Leads old_stamp new_stamp earlier later (some_told step.found) step.earlier.now step.later.now

-- the step from two lists; there is none where both are empty
abbrev pub Steps : {A B : Type 0} → (A → Stamp) → (B → Stamp) → Entries A → Entries B → Option (Step A B) → Type 0
Steps old_stamp new_stamp earlier later None = (earlier ≡ []) × (later ≡ [])
Steps old_stamp new_stamp earlier later (Some step) = LeadsTo old_stamp new_stamp earlier later step
