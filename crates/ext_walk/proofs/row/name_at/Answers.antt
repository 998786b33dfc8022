use Rattle.std.proofs.Common.{◌∙◌, arith, ap, length, length-drop, drop, sym}
use Rattle.ext_text.proofs.ForCallers.{get_drop}
use Rattle.ext_walk.proofs.row.name_at.Goals as goal

pub unreachable-requires : goal.unreachable-requires
unreachable-requires c =
    omega (arith, length-drop c.args.depth c.args.path.now, ap length (sym c.in-None.ensures ∙ c.rest.ensures ∙ ap (drop c.args.depth) c.names.ensures.same))

pub returns-clause-same : goal.returns-clause-same
returns-clause-same c =
    get_drop c.args.depth c.args.path.now c.in-Some.name.now c.in-Some._below
    (ap (drop c.args.depth) (sym c.names.ensures.same) ∙ sym c.rest.ensures ∙ c.in-Some.ensures.0)
