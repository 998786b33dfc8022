use Rattle.ext_tree.proofs.FollowingLemmas.{may_first, may_next}
use Rattle.ext_tree.proofs.following.may_follow.Goals as goal
use Rattle.std.proofs.Common.{◌++◌, ◌∷◌, [], ℕ, arith, subst, sym}
use Rattle.std.specs.Prelude.{nat_eq, IsTrue, ◌↔◌}
use Rattle.ext_tree.specs.Tree.{IsTree}

pub returns-in-empty : goal.returns-in-empty
returns-in-empty g c = λ e.
    subst (λ (n : ℕ). IsTrue (nat_eq n 1) ↔ IsTree (c.args.entries.now ++ (c.args.path.now, e) ∷ [])) (sym c.depth.ensures)
    (may_first c.args.entries.now c.names-names.result c.args.path.now c.in-empty.len_below c.names-names.ensures.same c.names-names.ensures.path e)

pub returns-in-len1-up : goal.returns-in-len1-up
returns-in-len1-up g c =
    may_next c.args.entries.now c.last-item.result c.args.path.now c.stands_after.result (omega arith) c.last-item.is c.requires c.names-names.ensures.path c.stands_after.ensures
