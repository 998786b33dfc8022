use Rattle.std.proofs.Common.{◌≡◌, ◌+◌, ◌++◌, true, length}
use Rattle.std.specs.FinMap.{is_sorted}
use Rattle.ext_text.specs.Path.{path_cmp}
use Rattle.ext_changes.specs.Changes.{AreChanges, Changes}
use Rattle.ext_changes.specs.Told.{all_told}
use Rattle.ext_changes.proofs.walking.push_changes.Given as goal

-- what was found, and the changes of what is left, are the changes of the whole
abbrev pub invariant-steps : goal.invariant-steps
invariant-steps g l = record {
  earlier_sorted : is_sorted path_cmp l.olds ≡ true;
  later_sorted : is_sorted path_cmp l.news ≡ true;
  found : Changes;
  added : all_told l.changes.items ≡ all_told l.fn.changes.items ++ found;
  whole : (more : Changes) → AreChanges g.A.Stamped.stamp g.B.Stamped.stamp l.olds l.news more → AreChanges g.A.Stamped.stamp g.B.Stamped.stamp l.earlier l.later (found ++ more);
}

abbrev pub decreases-steps : goal.decreases-steps
decreases-steps g l = length l.olds + length l.news
