use Rattle.std.proofs.Common.{sym, ◌∙◌}
use Rattle.ext_tree.specs.Part.{part}
use Rattle.ext_walk.proofs.WalkLemmas.{step_idle}
use Rattle.ext_walk.proofs.walking.turn_at.Goals as goal

pub returns-then-is_idle : goal.returns-then-is_idle
returns-then-is_idle g c = λ at is.
    (at, c.again.ensures ∙ is, λ left links. step_idle (part c.args.image.now c.args.tree.now) at c.args.name.now left links (sym c.is_idle.ensures ∙ c.if-is_idle.true))

pub returns-then-is_up : goal.returns-then-is_up
returns-then-is_up g c = λ at is.
    c.turn_up.ensures at c.args.name.now is (sym c.is_idle.ensures ∙ c.if-is_idle.false) (sym c.is_up.ensures ∙ c.if-is_up.true)

pub returns-else-is_up : goal.returns-else-is_up
returns-else-is_up g c = λ at is. c.turn_into.ensures c.args.image.now at is
