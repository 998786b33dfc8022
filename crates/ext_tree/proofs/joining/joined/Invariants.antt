use Rattle.std.proofs.Common.{◌≡◌, ◌++◌, None, true}
use Rattle.std.specs.List.{AllByRecursion}
use Rattle.std.specs.FinMap.{is_sorted}
use Rattle.std.specs.VecDeque.{deque_len}
use Rattle.ext_text.specs.Path.{path_cmp}
use Rattle.ext_tree.specs.Joining.{put_all}
use Rattle.ext_tree.specs.Tree.{lookup}
use Rattle.ext_tree.proofs.joining.joined.Given as goal

-- joining what is left to what is laid joins the whole
abbrev pub invariant-entries : goal.invariant-entries
invariant-entries g l = record {
  so_far : l.pairs.items ++ put_all l.rest.items l.others.items ≡ put_all l.fn.first.items l.fn.second.items;
  sorted : is_sorted path_cmp l.rest.items ≡ true;
  others_sorted : is_sorted path_cmp l.others.items ≡ true;
  apart : AllByRecursion (λ e. lookup l.others.items e.0 ≡ None) l.rest.items;
}

abbrev pub decreases-entries : goal.decreases-entries
decreases-entries g l = deque_len l.rest
