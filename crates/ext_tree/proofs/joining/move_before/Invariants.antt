use Rattle.std.proofs.Common.{◌≡◌, ◌++◌, drop, take}
use Rattle.std.specs.VecDeque.{deque_len}
use Rattle.ext_tree.specs.Joining.{count_before}
use Rattle.ext_tree.proofs.joining.move_before.Given as goal

-- what was moved and what is still to be moved is the same, and so is what stays
abbrev pub invariant-moves : goal.invariant-moves
invariant-moves g l =
    (l.pairs.items ++ take (count_before l.path l.others.items) l.others.items ≡ l.fn.pairs.items ++ take (count_before l.path l.fn.others.items) l.fn.others.items)
    × (drop (count_before l.path l.others.items) l.others.items ≡ drop (count_before l.path l.fn.others.items) l.fn.others.items)

abbrev pub decreases-moves : goal.decreases-moves
decreases-moves g l = deque_len l.others
